use Rattle.std.proofs.Common.{◌≡◌, take, true}
use Rattle.std.specs.List.{list_all}
use Rattle.difference_report.specs.Laws.{prefix_is_literal, row_is_literal}
use Rattle.difference_report.proofs.laws.recall_lines.Given as goal

abbrev pub invariant-loop-command : goal.invariant-loop-command
invariant-loop-command l = record {
  prefixes : list_all prefix_is_literal (take l.command-index l.commands) ≡ true;
  rows : list_all row_is_literal (take l.command-index l.commands) ≡ true;
}
