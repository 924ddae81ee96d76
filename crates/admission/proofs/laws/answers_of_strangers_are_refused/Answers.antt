use Rattle.admission.proofs.AnswerRefusals.{answers_of_strangers_are_refused}
use Rattle.admission.proofs.laws.answers_of_strangers_are_refused.Goals as goal

pub returns : goal.returns
returns c = answers_of_strangers_are_refused
