use Rattle.explanation.proofs.LeadLemmas.{lead_to_route}
use Rattle.explanation.proofs.laws.the_steps_lead_to_the_route.Goals as goal

pub returns : goal.returns
returns c = lead_to_route
