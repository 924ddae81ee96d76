use Rattle.std.proofs.Common.{◌+◌, ◌≤◌, filter}
use Rattle.std.specs.Prelude.{sum}
use Rattle.std.specs.List.{sum_by}
use Rattle.difference_counts.specs.Branches.{branched, has_room, weight_of}
use Rattle.difference_counts.specs.Numbers.{sum_to}
use Rattle.difference_counts.specs.Walk.{GrewBy, rest_place}
use Rattle.difference_counts.proofs.rests.count_branches.Given as goal

abbrev pub invariant-loop-room : goal.invariant-loop-room
invariant-loop-room l = record {
  grew : GrewBy l.initial.numbers l.numbers (λ place. sum_to l.room
      (λ room. sum_by (branched (rest_place l.walk.old.tables.now.commands
      l.walk.new.tables.now.commands l.walk.places.now) place)
      (filter (has_room room) l.branches)));
  bounded : sum l.numbers ≤ sum l.initial.numbers
      + sum_to l.room (λ room. sum_by weight_of (filter (has_room room) l.branches));
}
