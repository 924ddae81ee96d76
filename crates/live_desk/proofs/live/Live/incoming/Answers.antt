use Rattle.std.proofs.Common.{refl, ap, ◌∙◌}
use Rattle.decision_record.specs.History.{generations}
use Rattle.live_desk.proofs.Grows.{stays}
use Rattle.live_desk.proofs.live.Live.incoming.Goals as goal

pub returns-clause-published : goal.returns-clause-published
returns-clause-published g c =
    stays _ _ _ _ refl c.incoming.ensures ∙ ap generations c.self.view_is
