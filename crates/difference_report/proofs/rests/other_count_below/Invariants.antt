use Rattle.std.proofs.Common.{◌≡◌}
use Rattle.std.specs.Prelude.{None}
use Rattle.difference_report.specs.Lengths.{least_below, may_follow}
use Rattle.difference_report.proofs.rests.other_count_below.Given as goal

abbrev pub invariant-loop-count : goal.invariant-loop-count
invariant-loop-count l =
    least_below (may_follow l.found.old l.found.new l.set l.known) l.count ≡ None
