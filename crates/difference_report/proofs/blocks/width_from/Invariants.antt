use Rattle.std.proofs.Common.{◌≡◌, ◌≤◌, take, fold}
use Rattle.difference_report.specs.ReportText.{wider}
use Rattle.difference_report.proofs.blocks.width_from.Given as goal

abbrev pub invariant-loop-place : goal.invariant-loop-place
invariant-loop-place l = record {
  low : l.first ≤ l.place;
  width : l.width ≡ fold (wider l.found.old l.found.new l.group) 0 (take l.place l.sets);
}
