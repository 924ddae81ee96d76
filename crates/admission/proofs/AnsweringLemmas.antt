-- An answer by the reply that was kept.
use Rattle.std.proofs.Common.{◌≡◌, ℕ, Option, Some, sym, ap, subst, ◌∙◌}
use Rattle.std.specs.Prelude.{is_some, IsSome}
use Rattle.std.proofs.lemmas.Option.{same_Some}
use Rattle.rulings.specs.Events.{PlainEvent}
use Rattle.rulings.specs.declared.replies.Reply.{Reply}
use Rattle.decision_record.specs.History.{CoreParts, Steps}
use Rattle.admission.specs.Answering.{answered, reply_kept}
use Rattle.admission.specs.Stepping.{StepsInto}

pub answered_as : (core new : CoreParts) (event : PlainEvent) (kept : Option Reply) (reply : Reply)
    (number found : Option ℕ)
    → StepsInto (λ (k : Option Reply) r. k ≡ Some r) core event kept number new
    → kept ≡ Some reply → number ≡ found → Steps core event (answered event reply found) new
answered_as core new event kept reply number found steps is same =
    subst (λ n. Steps core event (answered event reply n) new) same
    (subst (λ r. Steps core event (answered event r number) new)
    (same_Some _ _ (sym steps.1 ∙ is)) steps.2)

module _ (core new : CoreParts) (event : PlainEvent) (kept : Option Reply) (number : Option ℕ)
    (steps : StepsInto (λ (k : Option Reply) r. k ≡ Some r) core event kept number new) where
  -- one was kept
  pub kept_some : IsSome kept
  kept_some = ap is_some steps.1

  -- with which the event was answered
  pub kept_steps : Steps core event (answered event (reply_kept kept) number) new
  kept_steps =
      subst (λ r. Steps core event (answered event r number) new) (sym (ap reply_kept steps.1))
      steps.2
