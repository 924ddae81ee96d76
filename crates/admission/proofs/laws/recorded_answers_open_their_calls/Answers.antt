use Rattle.admission.proofs.AnswerLaws.{recorded_answers_open_their_calls}
use Rattle.admission.proofs.laws.recorded_answers_open_their_calls.Goals as goal

pub returns : goal.returns
returns c = recorded_answers_open_their_calls
