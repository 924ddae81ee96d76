use Rattle.std.proofs.Common.{◌+◌, ◌-◌, ◌∷◌, ◌++◌, [], length}
use Rattle.std.specs.Prelude.{sum}
use Rattle.compiler.specs.Technology.{found_length}
use Rattle.plan_difference.specs.Sets.{is_joint}
use Rattle.difference_counts.specs.Branches.{weight}
use Rattle.difference_counts.specs.Numbers.{character_at}
use Rattle.difference_counts.specs.Walk.{all_shorter, below, left_at, place_of, rest_place}
use Rattle.difference_counts.proofs.VisitLemmas.{held}
use Rattle.difference_counts.proofs.WalkLemmas.{IsCounted}
use Rattle.difference_counts.proofs.walk.+visit.Given as goal

abbrev pub decreases-visit : goal.decreases-visit
decreases-visit l = l.most

abbrev pub invariant-loop-number : goal.invariant-loop-number
invariant-loop-number l =
    IsCounted l.ends (all_shorter l.most)
    (λ n place. below (place_of l.walk.old.tables.now.commands l.walk.new.tables.now.commands
    l.walk.places.now) (l.front ++ character_at n ∷ []) (l.most - 1) place)
    (λ n place. left_at l.walk.old.tables.now.commands l.walk.new.tables.now.commands
    l.walk.places.now (is_joint l.walk.old.tables.now.commands
    l.walk.new.tables.now.commands l.ways.old.technology l.ways.new.technology)
    (found_length l.ways.old.technology) l.front l.most n place)
    l.number (length l.initial.numbers)
    (held (rest_place l.walk.old.tables.now.commands l.walk.new.tables.now.commands
    l.walk.places.now) l.initial.numbers l.initial.branches.items)
    (held (rest_place l.walk.old.tables.now.commands l.walk.new.tables.now.commands
    l.walk.places.now) l.numbers l.branches.items)
    (sum l.initial.numbers + weight l.initial.branches.items)
    (sum l.numbers + weight l.branches.items)
