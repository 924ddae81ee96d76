use Rattle.std.proofs.Common.{subst}
use Rattle.decision_record.specs.History.{RecordParts}
use Rattle.decision_record.specs.Past.{HasRows}
use Rattle.decision_record.proofs.SharedLemmas.{rows_shared}
use Rattle.decision_record.proofs.record.Record.items.Goals as goal

pub returns : goal.returns
returns c =
    subst (λ (h : RecordParts). HasRows c.self.inside.log.items h.entries) c.self.view_is
    (rows_shared _ _ _ _ c.self.invariant.0 c.len-reloads.ensures.reloads)
