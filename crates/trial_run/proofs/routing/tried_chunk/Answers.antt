use Rattle.std.proofs.Common.{◌++◌, ◌∷◌, [], drop, map, take, ap, sym, ◌∙◌}
use Rattle.call_rows.specs.declared.rows.NumberedAdmission.{NumberedAdmission}
use Rattle.call_rows.specs.Rows.{admissions_of}
use Rattle.trial_run.specs.Answers.{row_among}
use Rattle.trial_run.specs.Numbers.{touched_among}
use Rattle.trial_run.proofs.ChunkLemmas.{map_more}
use Rattle.trial_run.proofs.routing.tried_chunk.Goals as goal

pub loop-turn-preserved : goal.loop-turn-preserved
loop-turn-preserved c =
    let commands = c.args.tables.now.commands in
    let kept = c.args.registry.now.endpoints in
    let all = admissions_of c.args.snapshot.now.rows in
    let at = sym c.admission.ensures ∙ c.in-Some.is in
    let tried = c.in_ok-try_admission.ensures in
    let was = c.loop-turn.invariant in (
      c.in_ok-add.ensures.rows ∙ ap (λ l. l ++ c.in_ok-try_admission.field-0.row ∷ []) was.0
          ∙ ap (λ r. map (row_among commands kept) (take c.loop-turn.turn (drop c.args.from all))
          ++ r ∷ []) tried.0
          ∙ map_more (row_among commands kept) all c.args.from c.loop-turn.turn
          c.in-Some.admission at,
      c.in_ok-add.ensures.touched
          ∙ ap (λ l. l ++ c.in_ok-try_admission.field-0.touched ∷ []) was.1
          ∙ ap (λ t. map (λ (a : NumberedAdmission). touched_among commands kept a.asked)
          (take c.loop-turn.turn (drop c.args.from all)) ++ t ∷ []) tried.1
          ∙ map_more (λ (a : NumberedAdmission). touched_among commands kept a.asked) all
          c.args.from
          c.loop-turn.turn c.in-Some.admission at,
    )
