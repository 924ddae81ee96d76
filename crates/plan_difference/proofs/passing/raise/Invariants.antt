use Rattle.plan_difference.proofs.PassedLemmas.{AreRaisedBelow}
use Rattle.plan_difference.proofs.passing.raise.Given as goal

abbrev pub invariant-loop-level : goal.invariant-loop-level
invariant-loop-level l =
    AreRaisedBelow l.least l.place l.other l.initial.firsts l.firsts l.level
