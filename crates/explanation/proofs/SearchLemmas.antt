-- Gateways: each as a candidate, and all of them by priority.
use Rattle.std.proofs.Common.{◌≡◌, ℕ, Bool, true, List, [], ◌∷◌, Some, None, Ok, Err, ap, ◌∙◌}
use Rattle.std.specs.Prelude.{Option, Result, IfOk, IfSome, if◌then◌else◌}
use Rattle.gk_commands.specs.declared.commands.Command.{Command}
use Rattle.compiler.specs.Priority.{priority_of}
use Rattle.compiler.specs.Rows.{ZoneRow}
use Rattle.registry.specs.Endpoint.{EndpointParts}
use Rattle.registry.specs.Gateway.{serves}
use Rattle.explanation.specs.declared.steps.Candidate.{Candidate}
use Rattle.explanation.specs.Steps.{candidate_in, ranked}

module _ (commands : List Command) (zone prefix : List ℕ) (e : EndpointParts) where
  -- an endpoint that serves is a candidate
  pub candidate_is : (o : Option (Option ZoneRow)) (priority : ℕ) → true ≡ serves zone prefix e
      → IfSome o (λ used. priority ≡ priority_of commands used e.id)
      → IfSome o (λ used. record { id = e.id; priority = priority } ∷ []
      ≡ candidate_in commands zone prefix used e)
  candidate_is None priority it_serves is = is
  candidate_is (Some used) priority it_serves is =
      ap (λ (p : ℕ). record { id = e.id; priority = p } ∷ []) is
      ∙ ap (λ (b : Bool).
      if b then record { id = e.id; priority = priority_of commands used e.id } ∷ [] else [])
      it_serves

-- what is found, by priority
pub ranked_found : {U V E : Type 0} (items : V → List Candidate) (r : Result V E) (o : Option U)
    (f : U → List Candidate) (found : List Candidate)
    → IfOk r (λ list. items list ≡ ranked found) → IfSome o (λ used. found ≡ f used)
    → IfOk r (λ list. IfSome o (λ used. items list ≡ ranked (f used)))
ranked_found items (Err e) o f found are is = are
ranked_found items (Ok list) None f found are is = is
ranked_found items (Ok list) (Some used) f found are is = are ∙ ap ranked is
