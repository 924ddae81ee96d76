use Rattle.std.proofs.Common.{subst}
use Rattle.difference_counts.specs.Ahead.{AreLiteral}
use Rattle.difference_report.proofs.laws.recall.Goals as goal

pub returns : goal.returns
returns c = subst AreLiteral c.lines_of.ensures c.recall_lines.ensures
