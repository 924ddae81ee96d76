use Rattle.std.proofs.Common.{◌≡◌, take}
use Rattle.std.specs.List.{sum_by}
use Rattle.difference_report.specs.Totals.{number_if}
use Rattle.difference_report.proofs.totals.total_of.Given as goal

abbrev pub invariant-loop-place : goal.invariant-loop-place
invariant-loop-place l =
    l.total ≡ sum_by (number_if l.old.commands l.new.commands l.changed) (take l.place l.sets)
