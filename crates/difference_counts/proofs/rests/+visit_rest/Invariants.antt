use Rattle.std.proofs.Common.{◌-◌}
use Rattle.difference_counts.specs.Walk.{rest_place}
use Rattle.difference_counts.proofs.RestLemmas.{IsRestCounted}
use Rattle.difference_counts.proofs.rests.+visit_rest.Given as goal

abbrev pub decreases-visit_rest : goal.decreases-visit_rest
decreases-visit_rest l = l.most

abbrev pub invariant-loop-number : goal.invariant-loop-number
invariant-loop-number l =
    IsRestCounted (rest_place l.walk.old.tables.now.commands l.walk.new.tables.now.commands
    l.walk.places.now) l.rest l.most (l.most - 1) l.times l.branches l.number l.alike
    l.initial.numbers l.numbers
