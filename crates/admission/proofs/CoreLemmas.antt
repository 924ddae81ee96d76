-- A core: its history, its state and its machine, what it may reply, and what every core keeps.
use Rattle.std.proofs.Common.{◌≡◌, ◌+◌, Bool, true, false, cond, List, [], ◌∷◌, ◌++◌, length, Some, inl, inr, refl, sym, ap, ap₂, subst, ◌∙◌, arith}
use Rattle.rulings.specs.declared.limits.Limits.{Limits}
use Rattle.rulings.specs.State.{State, MachineParts, opening_of, under}
use Rattle.rulings.specs.Founded.{IsUnder, takes_memory}
use Rattle.std.specs.Prelude.{IsSome}
use Rattle.std.specs.List.{AllByRecursion}
use Rattle.rulings.specs.Events.{PlainEvent, Registering, Unregistering, Admitting, Answering, Changing, Releasing, Reloading, put_in_force}
use Rattle.rulings.specs.Ruling.{ruling_of}
use Rattle.rulings.specs.Lacks.{no_memory_reply_of}
use Rattle.rulings.specs.Step.{places_needed, step}
use Rattle.entry_bytes.specs.Entry.{PlainEntry}
use Rattle.decision_record.specs.History.{entry_of, IsLegal, replay, CoreParts, RecordParts, in_force, generations_of, generations, state_of, with_entry, receipt_of, MayReply, core_after}
use Rattle.admission.specs.CoreInvariant.{IsOrderKept}
use Rattle.admission.specs.HistoryLaws.{AreAccepted, IsWithinLimits, IsSound}
use Rattle.admission.proofs.VersionLemmas.{all_accepted}
use Rattle.admission.proofs.HistoryLaws.{records_are_sound}
use Rattle.admission.proofs.StepLemmas.{step_records}

-- ---- histories
-- with one more recorded event
pub legal_more : (s : State) (entries : List PlainEntry) (event : PlainEvent) → IsLegal s entries
    → (step (replay s entries) event).recorded ≡ true
    → IsLegal s (entries ++ entry_of (replay s entries) event ∷ [])
legal_more s [] event legal recorded = (refl, recorded, tt)
legal_more s (e ∷ es) event legal recorded =
    (legal.0, legal.1, legal_more (step s e.event).state es event legal.2 recorded)

pub replay_more : (s : State) (entries : List PlainEntry) (event : PlainEvent)
    → replay s (entries ++ entry_of (replay s entries) event ∷ [])
    ≡ (step (replay s entries) event).state
replay_more s [] event = refl
replay_more s (e ∷ es) event = replay_more (step s e.event).state es event

-- a legal history has as many entries as it counts
replay_counts : (s : State) (entries : List PlainEntry) → IsLegal s entries
    → (replay s entries).records ≡ s.records + length entries
replay_counts s [] legal = omega arith
replay_counts s (e ∷ es) legal =
    let rest = replay_counts (step s e.event).state es legal.2 in
    let first = step_records s e.event legal.1 in
    omega (arith, rest, first)

-- ---- a core
-- a core with this record and these limits
abbrev pub opening_for : Limits → RecordParts → State
opening_for limits history = opening_of history.opening limits

abbrev pub core_with : Limits → RecordParts → Bool → CoreParts
core_with limits history reserved = record {
  opening = opening_for limits history;
  entries = history.entries;
  reserved = reserved;
}

-- its state, of this machine
abbrev pub state_for : MachineParts → RecordParts → State
state_for machine history = under (in_force history) machine

abbrev pub IsCore : MachineParts → RecordParts → Bool → Type 0
IsCore machine history reserved =
    IsOrderKept (opening_for machine.limits history) history (state_for machine history) reserved

module _ (machine : MachineParts) (history : RecordParts) (reserved : Bool)
    (kept : IsCore machine history reserved) where
  pub stands : state_for machine history ≡ state_of (core_with machine.limits history reserved)
  unfolding state_of
  stands = kept.replayed

  pub counts : machine.records ≡ length history.entries
  counts =
      let counted = replay_counts (opening_for machine.limits history) history.entries kept.legal in
      ap (λ (s : State). s.records) kept.replayed ∙ omega (arith, counted)

  sound : IsSound history.opening machine.limits history.entries (state_for machine history)
  sound =
      subst (IsSound history.opening machine.limits history.entries) (sym kept.replayed)
      (records_are_sound history.opening machine.limits history.entries kept.legal)

  -- it is within its limits
  pub is_within : IsWithinLimits (state_for machine history)
  is_within = sound.within

  module _ (core : CoreParts) (same : core_with machine.limits history reserved ≡ core) where
    pub stands_as : state_for machine history ≡ state_of core
    stands_as = stands ∙ ap state_of same

    -- the machine of a core, and its commands
    pub machine_is : IsUnder machine (state_of core)
    machine_is = subst (IsUnder machine) stands_as refl

    pub commands_are : in_force history ≡ (state_of core).commands
    commands_are = ap (λ (s : State). s.commands) stands_as

    pub is_legal : IsLegal core.opening core.entries
    is_legal = subst (λ (c : CoreParts). IsLegal c.opening c.entries) same kept.legal

    pub is_sound : IsSound core.opening.commands core.opening.limits core.entries (state_of core)
    is_sound =
        subst (λ (c : CoreParts).
        IsSound c.opening.commands c.opening.limits c.entries (state_of c)) same
        (subst (IsSound history.opening machine.limits history.entries) stands sound)

    pub are_accepted : AllByRecursion AreAccepted (generations core)
    are_accepted =
        subst (λ (c : CoreParts). AllByRecursion AreAccepted (generations c)) same
        (all_accepted (generations_of history.opening history.entries) kept.accepted)

-- if nothing changes but the room of the record
pub core_still : (machine new : MachineParts) (history more : RecordParts) (reserved : Bool)
    → new ≡ machine → more ≡ record history { room = more.room }
    → core_with new.limits more reserved ≡ core_with machine.limits history reserved
core_still machine new history more reserved still same =
    ap₂ (λ (m : MachineParts) h. core_with m.limits h reserved) still same

-- ---- what a core may reply
-- the machine's own reply is one that a core may give
pub answers_as_the_machine : (old : CoreParts) (event : PlainEvent)
    → MayReply old event (step (state_of old) event).reply (core_after old event)
answers_as_the_machine old event = by (step (state_of old) event).recorded refl
  where
    by : (recorded : Bool) → (step (state_of old) event).recorded ≡ recorded
        → MayReply old event (step (state_of old) event).reply
        (cond recorded (with_entry old event) old)
    by true e =
        let receipt = receipt_of (length old.entries + 1) (entry_of (state_of old) event) in
        inl (receipt, record { recorded = e; reply_is = refl; receipt_is = refl; new_is = refl })
    by false e = inr (record {
      reply_is =
          ap (λ t. cond t (no_memory_reply_of event) (Some (step (state_of old) event).reply)) e;
      unchanged = refl;
    })

-- ---- what every core keeps
-- a reload needs one place, and no memory of its own
pub reload_is_light : (s : State) (event : PlainEvent) → IsSome (put_in_force event)
    → (takes_memory (ruling_of s event).effect ≡ false)
    × (places_needed (ruling_of s event).effect ≡ 1)
unfolding ruling_of
reload_is_light s (Registering e) puts = let impossible : ⊥ = cc in absurd impossible
reload_is_light s (Unregistering id) puts = let impossible : ⊥ = cc in absurd impossible
reload_is_light s (Admitting id call digits units) puts =
    let impossible : ⊥ = cc in absurd impossible
reload_is_light s (Answering id call units) puts = let impossible : ⊥ = cc in absurd impossible
reload_is_light s (Changing id call units) puts = let impossible : ⊥ = cc in absurd impossible
reload_is_light s (Releasing id call) puts = let impossible : ⊥ = cc in absurd impossible
reload_is_light s (Reloading commands) puts = (refl, refl)
