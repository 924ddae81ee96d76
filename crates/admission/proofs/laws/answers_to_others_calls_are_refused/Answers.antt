use Rattle.admission.proofs.AnswerRefusals.{answers_to_others_calls_are_refused}
use Rattle.admission.proofs.laws.answers_to_others_calls_are_refused.Goals as goal

pub returns : goal.returns
returns c = answers_to_others_calls_are_refused
