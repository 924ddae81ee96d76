-- Each registered endpoint is in a local zone.
use Rattle.admission.proofs.EndpointLaws.{endpoints_are_local}
use Rattle.admission.proofs.laws.endpoints_are_local.Goals as goal

pub returns : goal.returns
returns c = endpoints_are_local
