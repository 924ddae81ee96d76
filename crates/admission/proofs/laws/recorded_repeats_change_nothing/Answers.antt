use Rattle.admission.proofs.AnswerLaws.{recorded_repeats_change_nothing}
use Rattle.admission.proofs.laws.recorded_repeats_change_nothing.Goals as goal

pub returns : goal.returns
returns c = recorded_repeats_change_nothing
