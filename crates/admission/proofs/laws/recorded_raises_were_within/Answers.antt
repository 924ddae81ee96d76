-- No call is given more while a sum of it stands above its limit.
use Rattle.admission.proofs.GrantLaws.{recorded_raises_were_within}
use Rattle.admission.proofs.laws.recorded_raises_were_within.Goals as goal

pub returns : goal.returns
returns c = recorded_raises_were_within
