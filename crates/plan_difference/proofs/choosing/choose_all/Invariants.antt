use Rattle.plan_difference.specs.Blocked.{AreChosen}
use Rattle.plan_difference.proofs.choosing.choose_all.Given as goal

abbrev pub invariant-loop-size : goal.invariant-loop-size
invariant-loop-size l =
    AreChosen l.old.commands l.new.commands l.heads l.patterns l.size l.chosen
