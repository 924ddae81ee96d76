use Rattle.admission.proofs.AnswerLaws.{answers_lead_to_the_endpoint}
use Rattle.admission.proofs.laws.answers_lead_to_the_endpoint.Goals as goal

pub returns : goal.returns
returns c = answers_lead_to_the_endpoint
