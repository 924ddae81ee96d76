-- Each admission that is granted goes where its digits lead.
use Rattle.admission.proofs.RouteLaws.{admissions_are_routed}
use Rattle.admission.proofs.laws.admissions_are_routed.Goals as goal

pub returns : goal.returns
returns c = admissions_are_routed
