use Rattle.gk_protocol.proofs.ReportLemmas.{AreCounted}
use Rattle.gk_protocol.proofs.report_texts.line_count.Given as goal

abbrev pub invariant-loop-line : goal.invariant-loop-line
invariant-loop-line l = AreCounted l.fn.text l._line-iterator l.count
