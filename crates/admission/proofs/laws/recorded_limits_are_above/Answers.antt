-- Each refusal for a limit names a sum that would be above it.
use Rattle.admission.proofs.GrantLaws.{recorded_limits_are_above}
use Rattle.admission.proofs.laws.recorded_limits_are_above.Goals as goal

pub returns : goal.returns
returns c = recorded_limits_are_above
