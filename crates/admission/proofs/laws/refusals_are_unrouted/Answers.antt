-- Each admission that is refused for its route has digits that lead nowhere.
use Rattle.admission.proofs.RouteLaws.{refusals_are_unrouted}
use Rattle.admission.proofs.laws.refusals_are_unrouted.Goals as goal

pub returns : goal.returns
returns c = refusals_are_unrouted
