use Rattle.plan_difference.proofs.SetLaws as laws
use Rattle.plan_difference.proofs.laws.sets_have_plans.Goals as goal

pub returns : goal.returns
returns c = laws.sets_have_plans
