use Rattle.std.proofs.Common.{◌+◌, ◌*◌, ◌≤◌}
use Rattle.std.specs.Prelude.{sum}
use Rattle.difference_counts.specs.Branches.{GrewWith, weight}
use Rattle.difference_counts.specs.Walk.{all_shorter, place_of, rest_place}
use Rattle.difference_counts.proofs.WalkLemmas.{firsts}
use Rattle.difference_counts.proofs.walk.visit_all.Given as goal

abbrev pub invariant-loop-character : goal.invariant-loop-character
invariant-loop-character l = record {
  grew : GrewWith (rest_place l.walk.old.tables.now.commands l.walk.new.tables.now.commands
      l.walk.places.now) l.initial.numbers l.initial.branches.items l.numbers l.branches.items
      (firsts (place_of l.walk.old.tables.now.commands l.walk.new.tables.now.commands
      l.walk.places.now) l.character-index);
  bounded : sum l.numbers + weight l.branches.items
      ≤ sum l.initial.numbers + weight l.initial.branches.items
      + l.character-index * all_shorter 32;
}
