use Rattle.std.proofs.Common.{◌≡◌, Option, Some, subst}
use Rattle.std.specs.Prelude.{IfSome}
use Rattle.rulings.proofs.routing.led.Goals as goal

-- what holds of what is found, if it is this
of_found : {T : Type 0} (P : T → Type 0) (o : Option T) (found : T) → o ≡ Some found
    → IfSome o P → P found
of_found P o found is holds = subst (λ p. IfSome p P) is holds

pub returns-clause-zone : goal.returns-clause-zone
returns-clause-zone c =
    of_found _ _ _ c.plan_beside-plan.ensures (c.zone_of_plan.ensures c.args.caller.now)
