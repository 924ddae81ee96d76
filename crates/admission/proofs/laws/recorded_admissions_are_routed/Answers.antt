-- Each admission that is granted goes where its digits lead.
use Rattle.admission.proofs.HistoryLaws.{recorded_admissions_are_routed}
use Rattle.admission.proofs.laws.recorded_admissions_are_routed.Goals as goal

pub returns : goal.returns
returns c = recorded_admissions_are_routed
