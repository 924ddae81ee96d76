use Rattle.admission.proofs.AnswerLaws.{recorded_answers_lead_to_the_endpoint}
use Rattle.admission.proofs.laws.recorded_answers_lead_to_the_endpoint.Goals as goal

pub returns : goal.returns
returns c = recorded_answers_lead_to_the_endpoint
