use Rattle.std.proofs.Common.{◌≡◌, take, fold}
use Rattle.difference_report.specs.Rows.{with_row}
use Rattle.difference_report.proofs.rows.add_rows.Given as goal

abbrev pub invariant-loop-place : goal.invariant-loop-place
invariant-loop-place l =
    l.rows ≡ fold (with_row l.found.old l.found.new l.joint l.found.changed) l.initial.rows
    (take l.place l.found.listed)
