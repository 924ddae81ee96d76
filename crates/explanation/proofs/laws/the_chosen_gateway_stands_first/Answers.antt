use Rattle.explanation.proofs.FirstLemmas.{chosen_first}
use Rattle.explanation.proofs.laws.the_chosen_gateway_stands_first.Goals as goal

pub returns : goal.returns
returns c = chosen_first
