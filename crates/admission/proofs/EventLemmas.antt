-- One event of a core, and its record: what it leaves if it is recorded, and if it is not.
use Rattle.std.proofs.Common.{◌≡◌, ◌≤◌, ◌+◌, ℕ, Bool, true, false, cond, List, [], ◌∷◌, ◌++◌, length, Option, Some, None, refl, sym, ap, ap₂, subst, ◌∙◌, arith}
use Rattle.rulings.specs.State.{State, MachineParts, bare, opening_of, under}
use Rattle.rulings.specs.Founded.{IsUnder}
use Rattle.std.proofs.lemmas.List.{length_push}
use Rattle.std.specs.Prelude.{IfSome}
use Rattle.std.specs.List.{AllByRecursion}
use Rattle.gk_commands.specs.Accepted.{IsAccepted}
use Rattle.gk_commands.specs.declared.commands.Command.{Command}
use Rattle.rulings.specs.Events.{PlainEvent, Reloading, put_in_force}
use Rattle.rulings.specs.Ruling.{reload_ruling, ruling_of, verdict_of}
use Rattle.rulings.specs.declared.replies.Reply.TheVariants.{ReloadRefused}
use Rattle.rulings.specs.declared.replies.ReloadRefusal.TheVariants.{NoMemory}
use Rattle.std.specs.Option.{option_and_then}
use Rattle.rulings.specs.declared.lacks.Lack.{Lack}
use Rattle.rulings.specs.Lacks.{reply_without, reload_reason, no_memory_reply_of}
use Rattle.rulings.specs.Step.{is_recorded, are_reloads_spent, lacks_places, lack_if, count_refusal, state_after, Outcome, outcome_of, step}
use Rattle.decision_record.specs.History.{entry_of, reload_entry, IsLegal, replay, CoreParts, RecordParts, in_force, in_force_of, generations_of, state_of, receipt_of, unrecorded_reply, IsRecorded, IsUnrecorded}
use Rattle.rulings.specs.Ruling.{Ruling}
use Rattle.rulings.specs.declared.replies.Reply.{Reply}
use Rattle.decision_record.specs.declared.entries.Receipt.{Receipt}
use Rattle.admission.proofs.VersionLemmas.{all_more}
use Rattle.admission.proofs.HistoryLaws.{replay_commands}
use Rattle.admission.proofs.StepLemmas.{after_limits}
use Rattle.admission.proofs.CoreLemmas.{legal_more, replay_more, opening_for, core_with, state_for, IsCore, counts, stands_as}

-- ---- steps
-- a step that no count refuses, and whose verdict is recorded
abbrev recorded_outcome : State → PlainEvent → Outcome
recorded_outcome s event =
    record {
      reply = verdict_of s event;
      recorded = true;
      state =
          state_after s event (ruling_of s event);
    }

step_recorded : (s : State) (event : PlainEvent) → count_refusal s event (ruling_of s event) ≡ None
    → is_recorded (verdict_of s event) ≡ true → step s event ≡ recorded_outcome s event
unfolding step
step_recorded s event free recorded =
    ap (outcome_of s event (ruling_of s event)) free
    ∙ ap (λ t. record {
      reply = verdict_of s event;
      recorded = t;
      state = cond t (state_after s event (ruling_of s event)) s;
    }) recorded

-- one that changes nothing
abbrev refused_outcome : State → Reply → Outcome
refused_outcome s refusal = record { reply = refusal; recorded = false; state = s }

step_refused : (s : State) (event : PlainEvent) (refusal : Reply)
    → count_refusal s event (ruling_of s event) ≡ Some refusal
    → step s event ≡ refused_outcome s refusal
unfolding step
step_refused s event refusal full = ap (outcome_of s event (ruling_of s event)) full

step_unrecorded : (s : State) (event : PlainEvent)
    → count_refusal s event (ruling_of s event) ≡ None
    → is_recorded (verdict_of s event) ≡ false
    → step s event ≡ refused_outcome s (verdict_of s event)
unfolding step
step_unrecorded s event free unrecorded =
    ap (outcome_of s event (ruling_of s event)) free
    ∙ ap (λ t. record {
      reply = verdict_of s event;
      recorded = t;
      state = cond t (state_after s event (ruling_of s event)) s;
    }) unrecorded

-- what is recorded of a reload
pub entry_of_reload : (s : State) (commands : List Command) (version : ℕ)
    → version ≡ (state_after s (Reloading commands) (ruling_of s (Reloading commands))).version
    → reload_entry commands version ≡ entry_of s (Reloading commands)
unfolding ruling_of state_after
entry_of_reload s commands version is = ap (reload_entry commands) is

-- and it leaves the calls
pub reload_calls : (s : State) (commands : List Command)
    → (state_after s (Reloading commands) (ruling_of s (Reloading commands))).calls ≡ s.calls
unfolding ruling_of state_after
reload_calls s commands = refl

module _ (machine : State) (event : PlainEvent) (core : CoreParts)
    (same : machine ≡ state_of core) where
  unrecorded_as : (outcome : Outcome) (reply : Reply) → step machine event ≡ outcome
      → cond outcome.recorded (no_memory_reply_of event) (Some outcome.reply) ≡ Some reply
      → unrecorded_reply (state_of core) event ≡ Some reply
  unrecorded_as outcome reply is replied =
      ap (λ s. unrecorded_reply s event) (sym same)
      ∙ ap (λ (o : Outcome). cond o.recorded (no_memory_reply_of event) (Some o.reply)) is
      ∙ replied

  -- an event that a count refuses leaves the core
  pub refuses : (refusal : Reply)
      → count_refusal machine event (ruling_of machine event) ≡ Some refusal
      → IsUnrecorded core event refusal core
  refuses refusal full = record {
    reply_is = unrecorded_as (refused_outcome machine refusal) refusal
        (step_refused machine event refusal full) refl;
    unchanged = refl;
  }

  pub refused_step : (refusal : Reply)
      → count_refusal machine event (ruling_of machine event) ≡ Some refusal
      → (step (state_of core) event).recorded ≡ false
  refused_step refusal full =
      ap (λ s. (step s event).recorded) (sym same)
      ∙ ap (λ (o : Outcome). o.recorded) (step_refused machine event refusal full)

  module _ (free : count_refusal machine event (ruling_of machine event) ≡ None) where
    -- so does one whose verdict is not recorded
    pub leaves_out : (verdict : Reply) → verdict ≡ verdict_of machine event
        → is_recorded verdict ≡ false → IsUnrecorded core event verdict core
    leaves_out verdict is unrecorded = record {
      reply_is = unrecorded_as (refused_outcome machine (verdict_of machine event)) verdict
          (step_unrecorded machine event free (ap is_recorded (sym is) ∙ unrecorded))
          (ap Some (sym is));
      unchanged = refl;
    }

    -- and so does one for which memory runs out
    pub lacks_memory : (new : CoreParts) (reply : Reply)
        → is_recorded (verdict_of machine event) ≡ true
        → no_memory_reply_of event ≡ Some reply → new ≡ core → IsUnrecorded core event reply new
    lacks_memory new reply recorded replied unchanged = record {
      reply_is = unrecorded_as (recorded_outcome machine event) reply
          (step_recorded machine event free recorded) replied;
      unchanged = unchanged;
    }

module _ (machine : MachineParts) (history : RecordParts) (reserved : Bool) (event : PlainEvent)
    (kept : IsCore machine history reserved)
    (free : count_refusal (state_for machine history) event
    (ruling_of (state_for machine history) event) ≡ None)
    (recorded : is_recorded (verdict_of (state_for machine history) event) ≡ true)
    (new : MachineParts) (more : RecordParts)
    (moved : IsUnder new (state_after (state_for machine history) event
    (ruling_of (state_for machine history) event)))
    (opened : more.opening ≡ history.opening)
    (entered : more.entries
    ≡ history.entries ++ entry_of (state_for machine history) event ∷ []) where
  abbrev pub now : State
  now = state_for machine history

  abbrev pub opening : State
  opening = opening_for machine.limits history

  abbrev pub next : State
  next = state_after now event (ruling_of now event)

  step_now : step now event ≡ recorded_outcome now event
  step_now = step_recorded now event free recorded

  step_there : step (replay opening history.entries) event ≡ recorded_outcome now event
  step_there = ap (λ s. step s event) (sym kept.replayed) ∙ step_now

  entry_there : history.entries ++ entry_of (replay opening history.entries) event ∷ []
      ≡ more.entries
  entry_there = ap (λ s. history.entries ++ entry_of s event ∷ []) (sym kept.replayed) ∙ sym entered

  same_limits : new.limits ≡ machine.limits
  same_limits =
      ap (λ (s : State). s.limits) moved ∙ after_limits now event (ruling_of now event)

  same_opening : opening_for new.limits more ≡ opening
  same_opening = ap₂ opening_of opened same_limits

  legal_now : IsLegal opening more.entries
  legal_now =
      subst (IsLegal opening) entry_there
      (legal_more opening history.entries event kept.legal
      (ap (λ (o : Outcome). o.recorded) step_there))

  replayed_now : replay opening more.entries ≡ next
  replayed_now =
      sym (ap (replay opening) entry_there) ∙ replay_more opening history.entries event
      ∙ ap (λ (o : Outcome). o.state) step_there

  -- the commands in force are those after the step
  in_force_now : in_force more ≡ next.commands
  in_force_now =
      ap (λ commands. in_force_of commands more.entries) opened
      ∙ sym (replay_commands opening more.entries legal_now)
      ∙ ap (λ (s : State). s.commands) replayed_now

  state_now : state_for new more ≡ next
  state_now = ap (λ commands. under commands new) in_force_now ∙ moved

  -- an event that is recorded leaves a core
  pub kept_on : length new.calls ≤ more.kept → IfSome (put_in_force event) IsAccepted
      → IsCore new more false
  kept_on enough asked = record {
    legal = subst (λ o. IsLegal o more.entries) (sym same_opening) legal_now;
    replayed =
        state_now ∙ sym replayed_now ∙ ap (λ o. replay o more.entries) (sym same_opening);
    accepted =
        subst (λ (o : State). AllByRecursion IsAccepted (generations_of o.commands more.entries))
        (sym same_opening)
        (subst (λ es. AllByRecursion IsAccepted (generations_of history.opening es))
        (sym entered)
        (all_more IsAccepted history.opening history.entries (entry_of now event) kept.accepted
        asked));
    kept = omega (arith, enough);
  }

  -- with the entry of the event
  pub records : (core : CoreParts) (reply : Reply) (receipt : Receipt)
      → core_with machine.limits history reserved ≡ core → reply ≡ verdict_of now event
      → receipt ≡ receipt_of (machine.records + 1) (entry_of now event)
      → IsRecorded core event reply receipt (core_with new.limits more false)
  records core reply receipt same replied given =
      let state = stands_as machine history reserved kept core same in
      let outcome : step (state_of core) event ≡ recorded_outcome now event =
      ap (λ s. step s event) (sym state) ∙ step_now in
      let number : machine.records + 1 ≡ length core.entries + 1 =
      ap (λ n. n + 1)
      (counts machine history reserved kept ∙ ap (λ (c : CoreParts). length c.entries) same) in
      record {
        recorded = ap (λ (o : Outcome). o.recorded) outcome;
        reply_is = replied ∙ sym (ap (λ (o : Outcome). o.reply) outcome);
        receipt_is = given ∙ ap₂ (λ n s. receipt_of n (entry_of s event)) number state;
        new_is =
            ap₂ (λ o es. record { opening = o; entries = es; reserved = false }) same_opening
            entered
            ∙ ap (λ s. record {
              opening = opening;
              entries = history.entries ++ entry_of s event ∷ [];
              reserved = false;
            }) state
            ∙ ap (λ (c : CoreParts). record {
              opening = c.opening;
              entries = c.entries ++ entry_of (state_of core) event ∷ [];
              reserved = false;
            }) same;
      }

  -- of which the record counts one more
  pub counts_one : length new.calls ≤ more.kept → IfSome (put_in_force event) IsAccepted
      → new.records ≡ machine.records + 1
  counts_one enough asked =
      counts new more false (kept_on enough asked) ∙ ap length entered
      ∙ length_push history.entries (entry_of now event)
      ∙ ap (λ n. n + 1) (sym (counts machine history reserved kept))

-- ---- reservations
module _ (machine : MachineParts) (history : RecordParts) (reserved : Bool)
    (kept : IsCore machine history reserved) (core : CoreParts)
    (same : core_with machine.limits history reserved ≡ core) (commands : List Command)
    (ruling : Ruling) where
  -- what the machine lacks for a reload, the state lacks
  counted : (found : Option Lack) → ruling ≡ reload_ruling (bare machine)
      → lack_if (are_reloads_spent (bare machine)) (lacks_places (bare machine) ruling.effect)
      ≡ found
      → count_refusal (state_for machine history) (Reloading commands)
      (ruling_of (state_for machine history) (Reloading commands))
      ≡ option_and_then (reply_without (Reloading commands)) found
  unfolding ruling_of count_refusal
  counted found given is =
      ap (λ (r : Ruling). option_and_then (reply_without (Reloading commands))
      (lack_if (are_reloads_spent (bare machine)) (lacks_places (bare machine) r.effect))) (sym given)
      ∙ ap (option_and_then (reply_without (Reloading commands))) is

  -- what is ruled by the machine is ruled by the state
  pub reload_ruled : ruling ≡ reload_ruling (bare machine)
      → ruling ≡ ruling_of (state_of core) (Reloading commands)
  unfolding ruling_of
  reload_ruled given =
      given
      ∙ ap (λ s. ruling_of s (Reloading commands))
      (stands_as machine history reserved kept core same)

  recorded_verdict : is_recorded (verdict_of (state_for machine history) (Reloading commands))
      ≡ true
  unfolding ruling_of
  recorded_verdict = refl

  pub reload_refused : (lack : Lack) → ruling ≡ reload_ruling (bare machine)
      → lack_if (are_reloads_spent (bare machine)) (lacks_places (bare machine) ruling.effect)
      ≡ Some lack
      → IsUnrecorded core (Reloading commands) (ReloadRefused (reload_reason lack)) core
  reload_refused lack given is =
      refuses (state_for machine history) (Reloading commands) core
      (stands_as machine history reserved kept core same) (ReloadRefused (reload_reason lack))
      (counted (Some lack) given is)

  pub reload_not_recorded : (lack : Lack) → ruling ≡ reload_ruling (bare machine)
      → lack_if (are_reloads_spent (bare machine)) (lacks_places (bare machine) ruling.effect)
      ≡ Some lack
      → (step (state_of core) (Reloading commands)).recorded ≡ false
  reload_not_recorded lack given is =
      refused_step (state_for machine history) (Reloading commands) core
      (stands_as machine history reserved kept core same) (ReloadRefused (reload_reason lack))
      (counted (Some lack) given is)

  pub reload_recorded : ruling ≡ reload_ruling (bare machine)
      → lack_if (are_reloads_spent (bare machine)) (lacks_places (bare machine) ruling.effect)
      ≡ None
      → (step (state_of core) (Reloading commands)).recorded ≡ true
  reload_recorded given is =
      ap (λ s. (step s (Reloading commands)).recorded)
      (sym (stands_as machine history reserved kept core same))
      ∙ ap (λ (o : Outcome). o.recorded)
      (step_recorded (state_for machine history) (Reloading commands) (counted None given is)
      recorded_verdict)

  pub reload_lacks_memory : ruling ≡ reload_ruling (bare machine)
      → lack_if (are_reloads_spent (bare machine)) (lacks_places (bare machine) ruling.effect)
      ≡ None → (new : CoreParts) → new ≡ core
      → IsUnrecorded core (Reloading commands) (ReloadRefused NoMemory) new
  reload_lacks_memory given is new unchanged =
      lacks_memory (state_for machine history) (Reloading commands) core
      (stands_as machine history reserved kept core same) (counted None given is) new
      (ReloadRefused NoMemory) recorded_verdict refl unchanged
