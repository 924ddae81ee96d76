use Rattle.std.proofs.Common.{◌≡◌, false}
use Rattle.difference_report.specs.Lengths.{any_below, is_other_with}
use Rattle.difference_report.proofs.lengths.has_others_below.Given as goal

abbrev pub invariant-loop-count : goal.invariant-loop-count
invariant-loop-count l =
    any_below (is_other_with l.found.old l.found.new (l.set, l.digits) l.front) l.count ≡ false
