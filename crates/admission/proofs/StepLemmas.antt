-- What one step keeps.
use Rattle.std.proofs.Common.{◌≡◌, ℕ, ◌+◌, Bool, true, false, cond, List, Option, Some, None, refl, sym, ap, ◌∙◌, true≢false, arith}
use Rattle.gk_commands.specs.declared.commands.Command.{Command}
use Rattle.registry.specs.Endpoint.{EndpointParts}
use Rattle.rulings.specs.State.{State}
use Rattle.rulings.specs.Events.{PlainEvent, Registering, Unregistering, Admitting, Answering, Changing, Releasing, Reloading, endpoint_asking, put_in_force}
use Rattle.rulings.specs.Ruling.{ruling_of, verdict_of}
use Rattle.rulings.specs.Step.{is_recorded, count_refusal, with_registered, with_commands, with_effect, state_after, outcome_of, step}
use Rattle.decision_record.specs.History.{in_force_after}
use Rattle.rulings.specs.declared.replies.Reply.{Reply}
use Rattle.rulings.specs.declared.rulings.Effect.{Effect}
use Rattle.rulings.specs.declared.rulings.Effect.TheVariants.{Nothing, Put, Remove, Open, Resize, Close, PutInForce}
use Rattle.rulings.specs.Ruling.{Ruling}

-- ---- the state after a ruling
-- two states are alike but for what an effect changes
record IsAlike (s t : State) : Type 0 where
  records : t.records ≡ s.records
  limits : t.limits ≡ s.limits

effect_is_alike : (s : State) (event : PlainEvent) (effect : Effect)
    → IsAlike s (with_effect s event effect)
effect_is_alike s event Nothing = record { records = refl; limits = refl }
effect_is_alike s event (Put zone) = by (endpoint_asking event)
  where
    by : (asking : Option EndpointParts) → IsAlike s (with_registered s zone asking)
    by None = record { records = refl; limits = refl }
    by (Some e) = record { records = refl; limits = refl }
effect_is_alike s event (Remove id) = record { records = refl; limits = refl }
effect_is_alike s event (Open call) = record { records = refl; limits = refl }
effect_is_alike s event (Resize call id units) = record { records = refl; limits = refl }
effect_is_alike s event (Close call id) = record { records = refl; limits = refl }
effect_is_alike s event PutInForce = by (put_in_force event)
  where
    by : (asked : Option (List Command)) → IsAlike s (with_commands s asked)
    by None = record { records = refl; limits = refl }
    by (Some commands) = record { records = refl; limits = refl }

pub after_limits : (s : State) (event : PlainEvent) (ruling : Ruling)
    → (state_after s event ruling).limits ≡ s.limits
unfolding state_after
after_limits s event ruling = (effect_is_alike s event ruling.effect).limits

-- one more verdict was recorded
pub after_records : (s : State) (event : PlainEvent) (ruling : Ruling)
    → (state_after s event ruling).records ≡ s.records + 1
unfolding state_after
after_records s event ruling = ap (λ n. n + 1) (effect_is_alike s event ruling.effect).records

-- ---- a step
-- what the state after each ruling keeps, a step keeps
step_keeps : {X : Type 0} (part : State → X) (s : State) (event : PlainEvent)
    → ((ruling : Ruling) → part (state_after s event ruling) ≡ part s)
    → part (step s event).state ≡ part s
unfolding step
step_keeps part s event after = by (count_refusal s event (ruling_of s event))
  where
    by_verdict : (recorded : Bool)
        → part (cond recorded (state_after s event (ruling_of s event)) s) ≡ part s
    by_verdict true = after (ruling_of s event)
    by_verdict false = refl

    by : (refusal : Option Reply)
        → part (outcome_of s event (ruling_of s event) refusal).state ≡ part s
    by None = by_verdict (is_recorded (verdict_of s event))
    by (Some refusal) = refl

pub step_limits : (s : State) (event : PlainEvent) → (step s event).state.limits ≡ s.limits
step_limits s event = step_keeps (λ t. t.limits) s event (after_limits s event)

-- ---- the commands in force
-- an event that puts none in force leaves them, and the version
record IsOfSameVersion (s t : State) : Type 0 where
  commands : t.commands ≡ s.commands
  version : t.version ≡ s.version

keeps_version : (s : State) (event : PlainEvent) (effect : Effect) → put_in_force event ≡ None
    → IsOfSameVersion s (with_effect s event effect)
keeps_version s event Nothing none = record { commands = refl; version = refl }
keeps_version s event (Put zone) none = by (endpoint_asking event)
  where
    by : (asking : Option EndpointParts) → IsOfSameVersion s (with_registered s zone asking)
    by None = record { commands = refl; version = refl }
    by (Some e) = record { commands = refl; version = refl }
keeps_version s event (Remove id) none = record { commands = refl; version = refl }
keeps_version s event (Open call) none = record { commands = refl; version = refl }
keeps_version s event (Resize call id units) none = record { commands = refl; version = refl }
keeps_version s event (Close call id) none = record { commands = refl; version = refl }
keeps_version s event PutInForce none = record {
  commands = ap (λ asked. (with_commands s asked).commands) none;
  version = ap (λ asked. (with_commands s asked).version) none;
}

-- how many versions an event makes
abbrev pub versions_made : Option (List Command) → ℕ
versions_made None = 0
versions_made (Some commands) = 1

record IsNextOf (s : State) (event : PlainEvent) (t : State) : Type 0 where
  commands : t.commands ≡ in_force_after s.commands (put_in_force event)
  version : t.version ≡ s.version + versions_made (put_in_force event)

same_is_next : (s t : State) (event : PlainEvent) → put_in_force event ≡ None
    → IsOfSameVersion s t → IsNextOf s event t
same_is_next s t event none same = record {
  commands = same.commands ∙ sym (ap (in_force_after s.commands) none);
  version = same.version ∙ sym (ap (λ asked. s.version + versions_made asked) none ∙ omega arith);
}

next_after : (s : State) (event : PlainEvent)
    → IsNextOf s event (with_effect s event (ruling_of s event).effect)
unfolding ruling_of
next_after s (Registering e) =
    same_is_next s _ (Registering e) refl
    (keeps_version s (Registering e) (ruling_of s (Registering e)).effect refl)
next_after s (Unregistering id) =
    same_is_next s _ (Unregistering id) refl
    (keeps_version s (Unregistering id) (ruling_of s (Unregistering id)).effect refl)
next_after s (Admitting id call digits units) =
    same_is_next s _ (Admitting id call digits units) refl
    (keeps_version s (Admitting id call digits units)
    (ruling_of s (Admitting id call digits units)).effect refl)
next_after s (Answering id call units) =
    same_is_next s _ (Answering id call units) refl
    (keeps_version s (Answering id call units) (ruling_of s (Answering id call units)).effect refl)
next_after s (Changing id call units) =
    same_is_next s _ (Changing id call units) refl
    (keeps_version s (Changing id call units) (ruling_of s (Changing id call units)).effect refl)
next_after s (Releasing id call) =
    same_is_next s _ (Releasing id call) refl
    (keeps_version s (Releasing id call) (ruling_of s (Releasing id call)).effect refl)
next_after s (Reloading commands) = record { commands = refl; version = refl }

-- the commands in force after the ruling on an event
pub after_commands : (s : State) (event : PlainEvent)
    → (state_after s event (ruling_of s event)).commands
    ≡ in_force_after s.commands (put_in_force event)
unfolding state_after
after_commands s event = (next_after s event).commands

after_version : (s : State) (event : PlainEvent)
    → (state_after s event (ruling_of s event)).version
    ≡ s.version + versions_made (put_in_force event)
unfolding state_after
after_version s event = (next_after s event).version

-- ---- a step that is recorded
-- no count refused it
pub step_not_refused : (s : State) (event : PlainEvent) → (step s event).recorded ≡ true
    → count_refusal s event (ruling_of s event) ≡ None
unfolding step
step_not_refused s event recorded = by (count_refusal s event (ruling_of s event)) recorded
  where
    by : (refusal : Option Reply)
        → (outcome_of s event (ruling_of s event) refusal).recorded ≡ true → refusal ≡ None
    by None recorded = refl
    by (Some refusal) recorded = absurd (true≢false (sym recorded))

-- and its verdict is one that is recorded
pub step_verdict_recorded : (s : State) (event : PlainEvent) → (step s event).recorded ≡ true
    → is_recorded (verdict_of s event) ≡ true
unfolding step
step_verdict_recorded s event recorded =
    sym (ap (λ refusal. (outcome_of s event (ruling_of s event) refusal).recorded)
    (step_not_refused s event recorded))
    ∙ recorded

-- it leaves the state after its ruling
pub step_state : (s : State) (event : PlainEvent) → (step s event).recorded ≡ true
    → (step s event).state ≡ state_after s event (ruling_of s event)
unfolding step
step_state s event recorded =
    ap (λ refusal. (outcome_of s event (ruling_of s event) refusal).state)
    (step_not_refused s event recorded)
    ∙ ap (λ t. cond t (state_after s event (ruling_of s event)) s)
    (step_verdict_recorded s event recorded)

-- and its verdict is the reply
pub step_reply : (s : State) (event : PlainEvent) → (step s event).recorded ≡ true
    → (step s event).reply ≡ verdict_of s event
unfolding step
step_reply s event recorded =
    ap (λ refusal. (outcome_of s event (ruling_of s event) refusal).reply)
    (step_not_refused s event recorded)

pub step_records : (s : State) (event : PlainEvent) → (step s event).recorded ≡ true
    → (step s event).state.records ≡ s.records + 1
step_records s event recorded =
    ap (λ t. t.records) (step_state s event recorded)
    ∙ after_records s event (ruling_of s event)

pub step_commands : (s : State) (event : PlainEvent) → (step s event).recorded ≡ true
    → (step s event).state.commands ≡ in_force_after s.commands (put_in_force event)
step_commands s event recorded =
    ap (λ t. t.commands) (step_state s event recorded) ∙ after_commands s event

pub step_version : (s : State) (event : PlainEvent) → (step s event).recorded ≡ true
    → (step s event).state.version ≡ s.version + versions_made (put_in_force event)
step_version s event recorded =
    ap (λ t. t.version) (step_state s event recorded) ∙ after_version s event
