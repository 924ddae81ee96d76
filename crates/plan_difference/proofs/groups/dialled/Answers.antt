use Rattle.plan_difference.proofs.GatherLemmas.{prefix_is_clean}
use Rattle.plan_difference.proofs.groups.dialled.Goals as goal

pub returns-clause-clean : goal.returns-clause-clean
returns-clause-clean c = prefix_is_clean c.args.prefix.now c.as_bytes.ensures.prefix
