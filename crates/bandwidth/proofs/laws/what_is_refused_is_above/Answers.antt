use Rattle.bandwidth.proofs.RefusalLaws.{refusal_names_a_sum}
use Rattle.bandwidth.proofs.laws.what_is_refused_is_above.Goals as goal

pub returns : goal.returns
returns c = refusal_names_a_sum
