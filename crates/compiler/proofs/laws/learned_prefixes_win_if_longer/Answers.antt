use Rattle.compiler.proofs.LearnedLemmas.{learns_nothing, learned_is_no_longer, learned_is_longer}
use Rattle.compiler.proofs.laws.learned_prefixes_win_if_longer.Goals as goal

pub returns-clause-nothing : goal.returns-clause-nothing
returns-clause-nothing c = learns_nothing

pub returns-clause-no_longer : goal.returns-clause-no_longer
returns-clause-no_longer c = learned_is_no_longer

pub returns-clause-longer : goal.returns-clause-longer
returns-clause-longer c = learned_is_longer
