-- An admission is refused as callerNotRegistered exactly if its caller is not registered.
use Rattle.admission.proofs.RouteLaws.{strangers_are_refused}
use Rattle.admission.proofs.laws.strangers_are_refused.Goals as goal

pub returns : goal.returns
returns c = strangers_are_refused
