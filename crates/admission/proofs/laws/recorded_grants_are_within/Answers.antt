-- No grant of a record leaves a sum of its call above its limit.
use Rattle.admission.proofs.GrantLaws.{recorded_grants_are_within}
use Rattle.admission.proofs.laws.recorded_grants_are_within.Goals as goal

pub returns : goal.returns
returns c = recorded_grants_are_within
