use Rattle.std.proofs.Common.{ap, sym, ◌∙◌, ◌++◌, ◌∷◌, [], ◌<◌, length, arith}
use Rattle.compiler.proofs.RowLemmas.{places_with, none_past}
use Rattle.compiler.proofs.rows.places_of.Goals as goal
use Rattle.compiler.proofs.rows.places_of.Goals.{in-Some+in_ok-push, in_default}

pub loop-place-preserved : goal.loop-place-preserved
loop-place-preserved c =
    let rows = c.args.rows.now.entries in
    let place = c.loop-place.place in
    elim c.match-get_index.branch [
      | in-Some+in_ok-push w ↦
          let at = w.in-Some.ensures.entry in
          ap (λ places. places.items) w.places-is ∙ w.in_ok-push.ensures.items
          ∙ ap (λ places. places ++ (w.in-Some.pattern.now, place) ∷ []) c.loop-place.invariant
          ∙ sym (places_with rows place _ (sym w.in-Some.ensures.entry))
      | in_default w ↦
          let within : place < length rows = omega (arith, c.len-place-end.ensures.len) in
          absurd (none_past rows place within (sym w.in_default.ensures.entry))
    ]
