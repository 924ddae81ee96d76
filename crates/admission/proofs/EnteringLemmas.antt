-- Whether a step is recorded, and what refuses it.
use Rattle.std.proofs.Common.{◌≡◌, Bool, true, false, Option, Some, None, refl, sym, ap, ◌∙◌}
use Rattle.std.specs.Prelude.{IsSome}
use Rattle.std.specs.Option.{option_and_then}
use Rattle.rulings.specs.State.{State, MachineParts, bare}
use Rattle.rulings.specs.Events.{PlainEvent, Registering, Unregistering, Admitting, Answering, Changing, Releasing, Reloading}
use Rattle.rulings.specs.Founded.{IsUnder}
use Rattle.rulings.specs.Lacks.{reply_without}
use Rattle.rulings.specs.Ruling.{Ruling, ruling_of}
use Rattle.rulings.specs.declared.lacks.Lack.{Lack}
use Rattle.rulings.specs.declared.lacks.Lack.TheVariants.{Limit, Record, Memory}
use Rattle.rulings.specs.declared.replies.Reply.{Reply}
use Rattle.rulings.specs.Step.{is_recorded, lack_if, lack_of, count_refusal, outcome_of, step}
use Rattle.rulings.proofs.CarryingLemmas.{lacks_alike}

-- ---- a step
unrefused_by : (s : State) (event : PlainEvent) (ruling : Ruling) (refusal : Option Reply)
    → (outcome_of s event ruling refusal).recorded ≡ true → refusal ≡ None
unrefused_by s event ruling (Some reply) h = let impossible : ⊥ = cc in absurd impossible
unrefused_by s event ruling None h = refl

verdict_by : (s : State) (event : PlainEvent) (ruling : Ruling) (refusal : Option Reply)
    → (outcome_of s event ruling refusal).recorded ≡ true → is_recorded ruling.verdict ≡ true
verdict_by s event ruling (Some reply) h = let impossible : ⊥ = cc in absurd impossible
verdict_by s event ruling None h = h

module _ (s : State) (event : PlainEvent) (recorded : (step s event).recorded ≡ true) where
  -- no count refuses a step that is recorded
  pub recorded_unrefused : count_refusal s event (ruling_of s event) ≡ None
  unfolding step
  recorded_unrefused =
      unrefused_by s event (ruling_of s event) (count_refusal s event (ruling_of s event)) recorded

  -- its verdict is one that is recorded
  pub recorded_verdict_of : is_recorded (ruling_of s event).verdict ≡ true
  unfolding step
  recorded_verdict_of =
      verdict_by s event (ruling_of s event) (count_refusal s event (ruling_of s event)) recorded

-- ---- a machine
module _ (m : MachineParts) (s : State) (is : IsUnder m s) (event : PlainEvent) (ruling : Ruling)
    (given : ruling ≡ ruling_of s event) where
  -- what the machine lacks refuses the event
  pub refused_for : (found : Option Lack) → lack_of (bare m) event ruling ≡ found
      → count_refusal s event (ruling_of s event) ≡ option_and_then (reply_without event) found
  unfolding count_refusal
  refused_for found lacks =
      ap (λ (r : Ruling). option_and_then (reply_without event) (lack_of s event r)) (sym given)
      ∙ ap (option_and_then (reply_without event))
      (ap (λ t. lack_of t event ruling) (sym is) ∙ sym (lacks_alike s.commands m event ruling)
      ∙ lacks)

-- ---- refusals
no_limit : (short : Bool) → lack_if false short ≡ Some Limit → ⊥
no_limit true h = cc
no_limit false h = cc

-- what an event lacks has a reply
pub has_refusal : (s : State) (event : PlainEvent) (ruling : Ruling) (lack : Lack)
    → lack_of s event ruling ≡ Some lack → IsSome (reply_without event lack)
has_refusal s (Registering e) ruling lack h = refl
has_refusal s (Unregistering id) ruling Limit h = absurd (no_limit _ h)
has_refusal s (Unregistering id) ruling Record h = refl
has_refusal s (Unregistering id) ruling Memory h = refl
has_refusal s (Admitting id call digits units) ruling lack h = refl
has_refusal s (Answering id call units) ruling lack h = refl
has_refusal s (Changing id call units) ruling Limit h = absurd (no_limit _ h)
has_refusal s (Changing id call units) ruling Record h = refl
has_refusal s (Changing id call units) ruling Memory h = refl
has_refusal s (Releasing id call) ruling lack h = let impossible : ⊥ = cc in absurd impossible
has_refusal s (Reloading commands) ruling lack h = refl
