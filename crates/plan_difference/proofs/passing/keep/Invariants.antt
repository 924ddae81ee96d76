use Rattle.std.proofs.Common.{◌<◌}
use Rattle.plan_difference.proofs.PassedLemmas.{AreKeptBelow}
use Rattle.plan_difference.proofs.passing.keep.Given as goal

abbrev pub invariant-loop-level : goal.invariant-loop-level
invariant-loop-level l = record {
  low : l.common < l.level;
  below : AreKeptBelow l.common l.initial.firsts l.firsts l.level;
}
