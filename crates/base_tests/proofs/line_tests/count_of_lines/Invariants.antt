use Rattle.gk_lines.specs.LineReader.{AtEndIfEnded}
use Rattle.base_tests.proofs.line_tests.count_of_lines.Given as goal

abbrev pub invariant-loop-count : goal.invariant-loop-count
invariant-loop-count g l = AtEndIfEnded l.lines (g.R.Source.remaining l.reader)
