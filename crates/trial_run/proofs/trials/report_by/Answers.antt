use Rattle.std.proofs.Common.{◌≡◌, ℕ, List, length, ap, sym, subst, ◌∙◌, arith}
use Rattle.std.specs.Prelude.{vec_items}
use Rattle.std.specs.List.{flat_map}
use Rattle.std.proofs.lemmas.List.{length-map}
use Rattle.std.specs.Map.{keys_of}
use Rattle.gk_commands.specs.declared.commands.Command.{Command}
use Rattle.gk_commands.specs.declared.zones.ZoneKind.{ZoneKind}
use Rattle.gk_commands.specs.Accepted.{IsAccepted}
use Rattle.gk_commands.specs.Zones.{zones_of}
use Rattle.call_rows.specs.Moves.{IsSound, Move}
use Rattle.call_rows.specs.Rows.{admissions_of}
use Rattle.call_rows.proofs.MoveLemmas.{moves_sound}
use Rattle.trial_run.specs.Answers.{row_among}
use Rattle.trial_run.specs.HeldPeaks.{peaks_held}
use Rattle.trial_run.specs.Report.{counts_of, peaks_among, same_among}
use Rattle.trial_run.specs.Touched.{touching}
use Rattle.trial_run.specs.Tried.{tried_rows}
use Rattle.trial_run.proofs.JoinLemmas.{counts_are, same_few}
use Rattle.trial_run.proofs.TrialLemmas.{same_report, zone_peaks}
use Rattle.trial_run.proofs.trials.report_by.Goals as goal

pub peaks-requires-clause-sound : goal.peaks-requires-clause-sound
peaks-requires-clause-sound g c zone =
    subst (λ (moves : List Move). IsSound (touching c.as_slice.result.now zone) 0 moves)
    (sym c.steps.ensures.moves)
    (moves_sound (touching c.as_slice.result.now zone) c.args.snapshot.now.rows)

pub overflow_sub-result : goal.overflow_sub-result
overflow_sub-result g c =
    let all = admissions_of c.args.snapshot.now.rows in
    let rows = tried_rows c.args.tables.now.commands c.args.registry.now.endpoints all in
    omega (
      arith,
      c.in_ok-tried.ensures.2,
      c.admission_count-rows.ensures.value,
      same_few rows,
      length-map all (row_among c.args.tables.now.commands c.args.registry.now.endpoints),
    )

pub invariant_of-result : goal.invariant_of-result
invariant_of-result g c =
    let all = admissions_of c.args.snapshot.now.rows in
    let row = row_among c.args.tables.now.commands c.args.registry.now.endpoints in
    let is = sym c.in_ok-tried.ensures.0 in
    counts_are (flat_map vec_items c.in_ok-tried.tried.rows.items) c.admission_count-rows.result
    c.in_ok-tried.tried.same
    (c.admission_count-rows.ensures.value ∙ sym (length-map all row) ∙ ap length is)
    (c.in_ok-tried.ensures.2 ∙ ap same_among is)

pub returns : goal.returns
returns g c =
    let rows = c.args.snapshot.now.rows in
    let all = admissions_of rows in
    let commands = c.args.tables.now.commands in
    let kept = c.args.registry.now.endpoints in
    let tried = c.in_ok-tried.tried in
    let told = c.in_ok-tried.ensures in
    let lines : c.as_slice-lines.result.now ≡ commands =
    c.as_slice-lines.ensures.commands ∙ ap (λ t. t.commands) c.commands.ensures in
    let accepted : IsAccepted commands = subst (λ (cs : List Command). IsAccepted cs) lines
    (rw c.as_slice-lines.ensures.commands c.as_slice-lines.ensures.accepted) in
    let named : c.in-Ok.zones.items ≡ keys_of (zones_of commands) =
    c.in-Ok.ensures ∙ ap (λ cs. keys_of (zones_of cs)) lines in
    let count : c.len.result ≡ length (zones_of commands) =
    c.len.ensures ∙ c.in-Ok.zones.ok.0 ∙ ap length named
    ∙ length-map (zones_of commands) (λ (e : List ℕ × ZoneKind). e.0) in
    let tops = rw (c.steps.ensures.moves, c.as_slice.ensures.value, told.1, count)
    at c.in_ok-tops.ensures in
    same_report (flat_map vec_items tried.rows.items) (tried_rows commands kept all)
    (peaks_held c.in-Ok.zones.items c.in_ok-tops.tops.items) (peaks_among commands kept rows) _
    (counts_of (tried_rows commands kept all)) told.0
    (zone_peaks commands kept rows c.in-Ok.zones.items c.in_ok-tops.tops.items accepted named tops)
    (counts_are (tried_rows commands kept all) c.admission_count-rows.result tried.same
    (c.admission_count-rows.ensures.value ∙ sym (length-map all (row_among commands kept))) told.2)
