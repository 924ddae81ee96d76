use Rattle.std.proofs.Common.{◌+◌, ◌-◌, ◌≤◌, []}
use Rattle.std.specs.Prelude.{sum}
use Rattle.difference_counts.specs.Walk.{GrewBy, rest_place}
use Rattle.difference_counts.specs.Numbers.{sum_to}
use Rattle.difference_counts.proofs.RestLemmas.{part_at, room_at}
use Rattle.difference_counts.proofs.rests.visit_rests.Given as goal

abbrev pub invariant-loop-number : goal.invariant-loop-number
invariant-loop-number l = record {
  grew : GrewBy l.initial.numbers l.numbers (λ place. sum_to l.number
      (part_at (rest_place l.walk.old.tables.now.commands l.walk.new.tables.now.commands
      l.walk.places.now) [] (l.room - 1) 0 l.branches place));
  bounded : sum l.numbers ≤ sum l.initial.numbers
      + sum_to l.number (room_at [] (l.room - 1) 0 l.branches);
}
