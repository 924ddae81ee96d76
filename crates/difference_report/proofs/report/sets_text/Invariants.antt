use Rattle.std.proofs.Common.{◌≡◌, [], take, fold, None}
use Rattle.difference_report.specs.Blocks.{IsBlock, group_in}
use Rattle.difference_report.specs.ReportText.{with_entry}
use Rattle.difference_report.proofs.report.sets_text.Given as goal

abbrev pub invariant-loop-place : goal.invariant-loop-place
invariant-loop-place l = record {
  text : (l.text.items, group_in l.block)
      ≡ fold (with_entry l.found.old l.found.new l.found.listed l.found.changed) ([], None)
      (take l.place l.found.listed);
  block : IsBlock l.found.old l.found.new l.found.listed l.place l.block;
}
