use Rattle.plan_difference.proofs.WalkLemmas.{NotBefore}
use Rattle.plan_difference.proofs.walk.pick.Given as goal

abbrev pub invariant-loop-head : goal.invariant-loop-head
invariant-loop-head l =
    NotBefore l.old.commands l.new.commands l.heads l.group l.stem l.stars l.head-index
