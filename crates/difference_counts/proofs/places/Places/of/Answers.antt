use Rattle.std.proofs.Common.{◌∙◌, ◌<◌, ap, sym, Some, arith, length}
use Rattle.difference_counts.proofs.PlaceLemmas.{key_at, one_more_place, no_entry_at}
use Rattle.difference_counts.proofs.places.Places.of.Goals as goal
use Rattle.difference_counts.proofs.places.Places.of.Goals.{in-Some+in_ok-insert, in_default}

pub loop-place-preserved : goal.loop-place-preserved
loop-place-preserved c =
    let sets = c.args.sets.now in
    let place = c.loop-place.place in
    elim c.match-get.branch [
      | in-Some+in_ok-insert w ↦
          one_more_place sets c.len-place-end.ensures.once place w.of.result
          (key_at sets place _ _ (sym w.in-Some.ensures) ∙ ap (λ set. Some set) (sym w.of.ensures))
          c.loop-place.found.keys c.match-get.found.keys c.loop-place.invariant
          (ap (λ found. found.keys) w.found-is ∙ w.in_ok-insert.ensures.keys)
      | in_default w ↦
          let low = c.loop-place-test.true in
          let size = c.len-place-end.ensures.count in
          absurd (no_entry_at sets place
          (let within : place < length sets = omega (arith, low, size) in within)
          (sym w.in_default.ensures))
    ]
