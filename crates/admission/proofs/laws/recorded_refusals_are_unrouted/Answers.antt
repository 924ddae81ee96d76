-- Each admission that is refused for its route has digits that lead nowhere.
use Rattle.admission.proofs.HistoryLaws.{recorded_refusals_are_unrouted}
use Rattle.admission.proofs.laws.recorded_refusals_are_unrouted.Goals as goal

pub returns : goal.returns
returns c = recorded_refusals_are_unrouted
