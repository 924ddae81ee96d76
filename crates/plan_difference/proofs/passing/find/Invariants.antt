use Rattle.std.proofs.Common.{◌≡◌, get_or}
use Rattle.std.specs.List.Sorted.{IsPermutation}
use Rattle.plan_difference.specs.Blocked.{ArePassed, AreRising}
use Rattle.plan_difference.proofs.passing.find.Given as goal

abbrev pub invariant-loop-place : goal.invariant-loop-place
invariant-loop-place l = record {
  first : l.place ≡ get_or l.firsts 32 0;
  passed : ArePassed l.old.commands l.new.commands l.heads l.firsts l.stem;
  rising : AreRising l.firsts;
  moved : IsPermutation l.initial.heads l.heads;
}
