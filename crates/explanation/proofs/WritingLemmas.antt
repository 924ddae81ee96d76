-- An explanation as it is written.
use Rattle.std.proofs.Common.{◌≡◌, ℕ, Bool, List, Option, Some, Ok, Err, subst}
use Rattle.std.specs.Prelude.{Result, IfOk, IfSome}
use Rattle.gk_commands.specs.declared.commands.Command.{Command}
use Rattle.registry.specs.Endpoint.{EndpointParts}
use Rattle.explanation.specs.declared.steps.Explanation.{Explanation}
use Rattle.explanation.specs.Steps.{Explains}
use Rattle.explanation.specs.Telling.{explanation_text}
use Rattle.explanation.specs.Writing.{IsExplained}

module _ {F : Type 0} (commands : List Command) (endpoints : List EndpointParts) (known : Bool)
    (caller digits : List ℕ) where
  -- the text of an explanation
  pub told : (r : Result (List ℕ) F) (e : Explanation)
      → Explains commands endpoints known caller digits e
      → IfOk r (λ text. text ≡ explanation_text commands e)
      → IfOk r (IsExplained commands endpoints known caller digits)
  told (Ok text) e explains is = (e, explains, is)
  told (Err fault) e explains is = is

-- what holds of what is found, if it is this
pub of_found : {T : Type 0} (P : T → Type 0) (o : Option T) (found : T) → o ≡ Some found
    → IfSome o P → P found
of_found P o found is holds = subst (λ p. IfSome p P) is holds
