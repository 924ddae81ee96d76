-- What every record says: each of its entries was ruled in the state that the entries before it
-- leave, and no limit is ever passed.
use Rattle.std.proofs.Common.{◌≡◌, ◌≤◌, ◌<◌, ℕ, ◌+◌, ◌-◌, Bool, true, false, not, cond, ◌&&◌, ◌||◌, List, [], ◌∷◌, ◌++◌, length, take, drop, nat_le, Option, Some, None, refl, sym, ap, subst, ◌∙◌, true≢false, arith, length-append, length-drop}
use Rattle.std.specs.List.{AllByRecursion, list_any, position_or_len, cons_option, filter_map}
use Rattle.std.specs.Prelude.{IsSome}
use Rattle.std.proofs.lemmas.Bool.{leb-false}
use Rattle.std.proofs.lemmas.List.{length-take-le}
use Rattle.std.proofs.lemmas.List.Sums.{prefix_len-le-length, length-filter, count_by-le-length}
use Rattle.gk_commands.specs.declared.commands.Command.{Command}
use Rattle.compiler.specs.Last.{last_in}
use Rattle.rulings.specs.declared.replies.AdmitRefusal.TheVariants.{NoRoute}
use Rattle.rulings.specs.declared.replies.Reply.{Reply}
use Rattle.rulings.specs.declared.replies.Reply.TheVariants.{Admitted, AdmitRefused}
use Rattle.rulings.specs.declared.rulings.Effect.{Effect}
use Rattle.rulings.specs.declared.rulings.Effect.TheVariants.{Nothing, Put, Remove, Open, Resize, Close, PutInForce}
use Rattle.registry.specs.Endpoint.{EndpointParts}
use Rattle.rulings.specs.State.{State, opening_of, free_places}
use Rattle.registry.specs.Registration.{has_id, is_registered, with_endpoint, without_endpoint, kept_zones}
use Rattle.gk_commands.specs.Zones.{is_local}
use Rattle.rulings.specs.declared.limits.Limits.{Limits}
use Rattle.rulings.specs.Events.{PlainEvent, Admitting, endpoint_asking, put_in_force}
use Rattle.rulings.specs.Ruling.{ruling_of, verdict_of}
use Rattle.rulings.specs.Step.{places_needed, count_refusal, is_recorded, with_registered, with_commands, with_effect, with_count, state_after, step}
use Rattle.entry_bytes.specs.Entry.{PlainEntry}
use Rattle.decision_record.specs.History.{entry_of, IsLegal, replay, in_force_after, in_force_of, generations_of}
use Rattle.admission.specs.HistoryLaws.{AreAccepted, StandsAfter, RecordedAdmissionsAreRouted, RecordedRefusalsAreUnrouted, IsWithinLimits, RecordsAreSound}
use Rattle.rulings.specs.Founded.{IsPlaceable, IsFounded}
use Rattle.admission.proofs.CallsLemmas.{length-with_call, length-with_changed, length-without_call}
use Rattle.admission.proofs.FoundedLemmas.{founded, places_are_free}
use Rattle.admission.proofs.StepLemmas.{versions_made, step_commands, step_version, step_limits, step_records, step_not_refused, step_verdict_recorded, step_state}
use Rattle.admission.proofs.RouteLaws.{admissions_are_routed, refusals_are_unrouted}

-- ---- entries
-- whatever each step keeps, a history keeps
replay_keeps : {X : Type 0} (part : State → X)
    → ((s : State) (event : PlainEvent) → part (step s event).state ≡ part s)
    → (s : State) (entries : List PlainEntry) → part (replay s entries) ≡ part s
replay_keeps part kept s [] = refl
replay_keeps part kept s (e ∷ entries) =
    replay_keeps part kept (step s e.event).state entries
    ∙ kept s e.event

-- the commands in force are those that were put in force last
pub replay_commands : (s : State) (entries : List PlainEntry) → IsLegal s entries
    → (replay s entries).commands ≡ in_force_of s.commands entries
replay_commands s [] legal = refl
replay_commands s (e ∷ entries) legal =
    replay_commands (step s e.event).state entries legal.2
    ∙ ap (λ commands. in_force_of commands entries) (step_commands s e.event legal.1)

-- an entry is what is recorded of its event in the state that those before it leave
entry_there : (s : State) (before after : List PlainEntry) (e : PlainEntry) → IsLegal s
    (before ++ e ∷ after)
    → e ≡ entry_of (replay s before) e.event
entry_there s [] after e legal = legal.0
entry_there s (b ∷ before) after e legal = entry_there (step s b.event).state before after e legal.2

-- so its reply is the verdict there
pub verdict_there : (s : State) (entries before : List PlainEntry) (e : PlainEntry) → IsLegal s
    entries
    → StandsAfter entries before e → (event : PlainEvent) (reply : Reply) → e.event ≡ event
    → e.reply ≡ reply → verdict_of (replay s before) event ≡ reply
verdict_there s entries before e legal stands event reply asked replied =
    ap (verdict_of (replay s before)) (sym asked)
    ∙ sym (ap (λ (entry : PlainEntry). entry.reply)
    (entry_there s before stands.0 e (subst (IsLegal s) stands.1 legal)))
    ∙ replied

-- the history up to an entry
pub legal_before : (s : State) (before after : List PlainEntry) → IsLegal s (before ++ after)
    → IsLegal s before
legal_before s [] after legal = tt
legal_before s (b ∷ before) after legal =
    (legal.0, legal.1, legal_before (step s b.event).state before after legal.2)

-- what holds of each configuration that was put in force holds of the one in force at any time
held_then : (P : List Command → Type 0) (commands : List Command) (before after : List PlainEntry)
    → AllByRecursion P (generations_of commands (before ++ after))
    → P (in_force_of commands before)
held_then P commands [] after all = all.0
held_then P commands (b ∷ before) after all =
    by (put_in_force b.event)
    (λ others. held_then P others before after) all
  where
    rest : List (List Command)
    rest = filter_map (λ (e : PlainEntry). put_in_force e.event) (before ++ after)

    by : (asked : Option (List Command))
        → ((others : List Command) → AllByRecursion P (others ∷ rest)
        → P (in_force_of others before))
        → AllByRecursion P (commands ∷ cons_option asked rest)
        → P (in_force_of (in_force_after commands asked) before)
    by None then all = then commands all
    by (Some others) then all = then others all.1

module _ (commands : List Command) (limits : Limits) (entries before : List PlainEntry)
    (e : PlainEntry) (all : AllByRecursion AreAccepted (generations_of commands entries))
    (legal : IsLegal (opening_of commands limits) entries)
    (stands : StandsAfter entries before e) where
  legal_there : IsLegal (opening_of commands limits) before
  legal_there =
      legal_before (opening_of commands limits) before (e ∷ stands.0)
      (subst (IsLegal (opening_of commands limits)) stands.1 legal)

  accepted_there : AreAccepted (in_force_of commands before)
  accepted_there =
      held_then AreAccepted commands before (e ∷ stands.0)
      (subst (λ es. AllByRecursion AreAccepted (generations_of commands es)) stands.1 all)

  in_force_there : (replay (opening_of commands limits) before).commands
      ≡ (accepted_there.1).0.commands
  in_force_there =
      replay_commands (opening_of commands limits) before legal_there ∙ (accepted_there.1).2

pub recorded_admissions_are_routed : RecordedAdmissionsAreRouted
recorded_admissions_are_routed commands limits entries before e all legal stands
    call units id digits replied_call granted destination asked replied =
    let opening = opening_of commands limits in
    let accepted = accepted_there commands limits entries before e all legal stands in
    admissions_are_routed accepted.0 accepted.1.0 (replay opening before) accepted.1.1
    (in_force_there commands limits entries before e all legal stands)
    call units id digits replied_call granted destination
    (verdict_there opening entries before e legal stands (Admitting id call digits units)
    (Admitted replied_call destination granted) asked replied)

pub recorded_refusals_are_unrouted : RecordedRefusalsAreUnrouted
recorded_refusals_are_unrouted commands limits entries before e all legal stands call
    units id digits replied_call refusal asked replied =
    let opening = opening_of commands limits in
    let accepted = accepted_there commands limits entries before e all legal stands in
    refusals_are_unrouted accepted.0 accepted.1.0 (replay opening before) accepted.1.1
    (in_force_there commands limits entries before e all legal stands)
    call units id digits replied_call refusal
    (verdict_there opening entries before e legal stands (Admitting id call digits units)
    (AdmitRefused replied_call (NoRoute refusal)) asked replied)

-- ---- endpoints
-- what is found has a place
found_within : {X : Type 0} (p : X → Bool) (xs : List X) → list_any p xs ≡ true
    → position_or_len p xs < length xs
found_within p [] h = absurd (true≢false (sym h))
found_within p (x ∷ xs) h = by (p x) (found_within p xs) h
  where
    by : (t : Bool) → (list_any p xs ≡ true → position_or_len p xs < length xs)
        → (t || list_any p xs) ≡ true → cond (not t) (1 + position_or_len p xs) 0 < length (x ∷ xs)
    by true rest h = omega arith
    by false rest h = omega (arith, rest h)

-- an element put at a place
length_put : {X : Type 0} (xs : List X) (x : X) (place : ℕ) → place ≤ length xs
    → length (take place xs ++ x ∷ drop (place + 1) xs) ≡ place + (1 + (length xs - (place + 1)))
length_put xs x place within =
    length-append (take place xs) (x ∷ drop (place + 1) xs)
    ∙ omega (arith, length-take-le place xs within, length-drop (place + 1) xs)

-- with an endpoint they are within the limit still: it takes the place of the one with its ID, or
-- there was room
length_with_endpoint : (endpoints : List EndpointParts) (e : EndpointParts) (most : ℕ)
    → length endpoints ≤ most
    → (not (is_registered endpoints e.id) && nat_le most (length endpoints)) ≡ false
    → length (with_endpoint endpoints e) ≤ most
length_with_endpoint endpoints e most within room = by (is_registered endpoints e.id) refl room
  where
    place_within : position_or_len (has_id e.id) endpoints ≤ length endpoints
    place_within = prefix_len-le-length (λ f. not (has_id e.id f)) endpoints

    long : length (with_endpoint endpoints e)
        ≡ position_or_len (has_id e.id) endpoints +
        (1 + (length endpoints - (position_or_len (has_id e.id) endpoints + 1)))
    long = length_put endpoints e (position_or_len (has_id e.id) endpoints) place_within

    by : (t : Bool) → is_registered endpoints e.id ≡ t
        → (not t && nat_le most (length endpoints)) ≡ false
        → length (with_endpoint endpoints e) ≤ most
    by true there room = omega (arith, long, within, found_within (has_id e.id) endpoints there)
    by false there room = omega (arith, long, place_within, leb-false most (length endpoints) room)

length_without_endpoint : (endpoints : List EndpointParts) (id : List ℕ)
    → length (without_endpoint endpoints id) ≤ length endpoints
length_without_endpoint endpoints id =
    omega (
      arith,
      length-filter (λ e. not (has_id id e)) endpoints,
      count_by-le-length
          (λ e. not (has_id id e)) endpoints,
    )

length_kept : (commands : List Command) (endpoints : List EndpointParts)
    → length (kept_zones commands endpoints) ≤ length endpoints
length_kept commands endpoints =
    omega (
      arith,
      length-filter (λ (e : EndpointParts). is_local commands e.zone) endpoints,
      count_by-le-length
          (λ (e : EndpointParts). is_local commands e.zone) endpoints,
    )

-- ---- the limits after a step
module _ (s : State) (event : PlainEvent) (within : IsWithinLimits s) where
  effect_within : (effect : Effect) → IsFounded s event effect
      → places_needed effect ≤ free_places s → IsWithinLimits
      (with_count (with_effect s event effect))
  effect_within Nothing founded free = record {
    endpoints = within.endpoints;
    calls = within.calls;
    records = omega (arith, within.records, free);
    reloads = within.reloads;
  }
  effect_within (Put zone) founded free = by (endpoint_asking event) founded
    where
      by : (asking : Option EndpointParts) → IsPlaceable s zone asking
          → IsWithinLimits (with_count (with_registered s zone asking))
      by None impossible = absurd impossible
      by (Some e) placeable = record {
        endpoints = length_with_endpoint s.endpoints (record e { zone = zone })
            s.limits.endpoints within.endpoints placeable.2;
        calls = within.calls;
        records = omega (arith, within.records, free);
        reloads = within.reloads;
      }
  effect_within (Remove id) founded free = record {
    endpoints = omega (arith, within.endpoints, length_without_endpoint s.endpoints id);
    calls = within.calls;
    records = omega (arith, within.records, free);
    reloads = within.reloads;
  }
  effect_within (Open call) founded free =
      let longer = length-with_call s.calls call in
      record {
        endpoints = within.endpoints;
        calls = omega
            (arith, longer, leb-false s.limits.calls (length s.calls) founded.room);
        records = omega (arith, longer, within.records, free);
        reloads = within.reloads;
      }
  effect_within (Resize call id units) founded free =
      let same = length-with_changed s.calls call units in
      record {
        endpoints = within.endpoints;
        calls = omega (arith, same, within.calls);
        records = omega (arith, same, within.records, free);
        reloads = within.reloads;
      }
  effect_within (Close call id) founded free =
      let fewer = length-without_call s.calls call id founded in
      record {
        endpoints = within.endpoints;
        calls = omega (arith, fewer, within.calls);
        records = omega (arith, fewer, within.records);
        reloads = within.reloads;
      }
  effect_within PutInForce founded free = by (put_in_force event) founded.puts
    where
      by : (asked : Option (List Command)) → IsSome asked
          → IsWithinLimits (with_count (with_commands s asked))
      by None some = let impossible : ⊥ = cc in absurd impossible
      by (Some commands) some = record {
        endpoints = omega (arith, within.endpoints, length_kept commands s.endpoints);
        calls = within.calls;
        records = omega (arith, within.records, free);
        reloads = omega (arith, founded.left);
      }

  after_within : count_refusal s event (ruling_of s event) ≡ None
      → is_recorded (verdict_of s event) ≡ true
      → IsWithinLimits (state_after s event (ruling_of s event))
  unfolding state_after
  after_within free recorded =
      effect_within (ruling_of s event).effect (founded s event free)
      (places_are_free s event free recorded)

  step_within : (step s event).recorded ≡ true → IsWithinLimits (step s event).state
  step_within recorded =
      subst IsWithinLimits (sym (step_state s event recorded))
      (after_within (step_not_refused s event recorded) (step_verdict_recorded s event recorded))

-- ---- whole records
replay_records : (s : State) (entries : List PlainEntry) → IsLegal s entries
    → (replay s entries).records ≡ s.records + length entries
replay_records s [] legal = omega arith
replay_records s (e ∷ entries) legal =
    let one = step_records s e.event legal.1 in
    let rest = replay_records (step s e.event).state entries legal.2 in
    omega (arith, one, rest)

replay_within : (s : State) (entries : List PlainEntry) → IsLegal s entries → IsWithinLimits s
    → IsWithinLimits (replay s entries)
replay_within s [] legal within = within
replay_within s (e ∷ entries) legal within =
    replay_within (step s e.event).state entries legal.2
    (step_within s e.event within legal.1)

-- the last of the configurations that were put in force is the one in force
last_put : (commands : List Command) (entries : List PlainEntry)
    → Some (in_force_of commands entries) ≡ last_in (generations_of commands entries)
last_put commands [] = refl
last_put commands (e ∷ entries) =
    by (put_in_force e.event) (λ others. last_put others entries)
  where
    rest : List (List Command)
    rest = filter_map (λ (f : PlainEntry). put_in_force f.event) entries

    by : (asked : Option (List Command))
        → ((others : List Command) → Some (in_force_of others entries) ≡ last_in (others ∷ rest))
        → Some (in_force_of (in_force_after commands asked) entries)
        ≡ last_in (commands ∷ cons_option asked rest)
    by None then = then commands
    by (Some others) then = then others

-- and the version is their number
replay_version : (s : State) (entries : List PlainEntry) → IsLegal s entries
    → (replay s entries).version + 1 ≡ s.version + length (generations_of s.commands entries)
replay_version s [] legal = refl
replay_version s (e ∷ entries) legal =
    by (put_in_force e.event) (step_version s e.event legal.1)
    (replay_version (step s e.event).state entries legal.2)
  where
    rest : List (List Command)
    rest = filter_map (λ (f : PlainEntry). put_in_force f.event) entries

    by : (asked : Option (List Command))
        → (step s e.event).state.version ≡ s.version + versions_made asked
        → (replay (step s e.event).state entries).version + 1
        ≡ (step s e.event).state.version + length ((step s e.event).state.commands ∷ rest)
        → (replay (step s e.event).state entries).version + 1
        ≡ s.version + length (s.commands ∷ cons_option asked rest)
    by None one more = omega (arith, one, more)
    by (Some others) one more = omega (arith, one, more)

pub records_are_sound : RecordsAreSound
records_are_sound commands limits entries legal =
    let opening = opening_of commands limits in
    record {
      commands_are =
          ap Some (replay_commands opening entries legal) ∙ last_put commands entries;
      version_is = omega (arith, replay_version opening entries legal);
      limits_are = replay_keeps (λ t. t.limits) step_limits opening entries;
      records_are = replay_records opening entries legal ∙ omega arith;
      within = replay_within opening entries legal
          (record {
            endpoints = omega arith;
            calls = omega arith;
            records = omega arith;
            reloads = omega arith;
          });
    }
