use Rattle.gk_protocol.proofs.ReportLemmas.{one_counted}
use Rattle.gk_protocol.proofs.report_texts.line_count.Goals as goal

pub loop-line-preserved : goal.loop-line-preserved
loop-line-preserved c =
    rw c.saturating_add-count.ensures
    (one_counted _ _ _ _ _ c.loop-line.invariant c.in-Some.ensures.steps)
