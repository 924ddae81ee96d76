use Rattle.std.proofs.Common.{subst}
use Rattle.decision_record.specs.History.{CoreParts}
use Rattle.live_desk.specs.Seats.{IsLawful}
use Rattle.live_desk.proofs.live.Live.record.Goals as goal

pub returns-clause-lawful : goal.returns-clause-lawful
returns-clause-lawful g c =
    subst (λ (core : CoreParts). IsLawful core.opening core.entries) c.self.view_is
    (record { legal = c.record.ensures.legal; accepted = c.record.ensures.accepted })
