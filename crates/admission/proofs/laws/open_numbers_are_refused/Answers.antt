-- An admission is refused as call-open exactly if its caller is registered and the number is open.
use Rattle.admission.proofs.RouteLaws.{open_numbers_are_refused}
use Rattle.admission.proofs.laws.open_numbers_are_refused.Goals as goal

pub returns : goal.returns
returns c = open_numbers_are_refused
