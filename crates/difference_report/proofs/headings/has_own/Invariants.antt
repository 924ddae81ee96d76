use Rattle.std.proofs.Common.{◌≡◌, take}
use Rattle.std.specs.List.{list_any}
use Rattle.difference_report.specs.Headings.{is_own_entry}
use Rattle.difference_report.proofs.headings.has_own.Given as goal

abbrev pub invariant-loop-place : goal.invariant-loop-place
invariant-loop-place l = l.found ≡ list_any is_own_entry (take l.place l.sets)
