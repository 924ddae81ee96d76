-- The effect of a ruling that no count refuses can be carried out.
use Rattle.std.proofs.Common.{◌≡◌, ◌≤◌, ◌+◌, ◌-◌, Bool, true, false, cond, List, length, Option, Some, None, refl, sym, ap, subst, ◌∙◌, true≢false, arith}
use Rattle.std.specs.Prelude.{ℕ, zero, suc, IsSome}
use Rattle.std.proofs.lemmas.Bool.{ltb-false}
use Rattle.std.proofs.lemmas.Option.{none-some}
use Rattle.registry.specs.Endpoint.{EndpointParts}
use Rattle.registry.specs.Registration.{endpoint_of, is_registered}
use Rattle.bandwidth.specs.declared.open_call.OpenCall.{OpenCall}
use Rattle.bandwidth.specs.declared.over.Over.{Over}
use Rattle.bandwidth.specs.Calls.{call_of, is_open, owns, has_owner}
use Rattle.bandwidth.specs.Fits.{over_of}
use Rattle.bandwidth.proofs.CallLemmas.{closed_if_none}
use Rattle.rulings.specs.declared.replies.RegisterRefusal.{RegisterRefusal}
use Rattle.rulings.specs.declared.replies.ReleaseRefusal.{ReleaseRefusal}
use Rattle.rulings.specs.declared.replies.Reply.{Reply}
use Rattle.rulings.specs.declared.replies.Reply.TheVariants.{Unregistered, UnregisterRefused, ChangeRefused, Released, ReleaseRefused}
use Rattle.rulings.specs.declared.replies.UnregisterRefusal.TheVariants as unregister
use Rattle.rulings.specs.declared.replies.ChangeRefusal.TheVariants as change
use Rattle.rulings.specs.declared.replies.ReleaseRefusal.TheVariants as release
use Rattle.rulings.specs.declared.routes.Destination.{Destination}
use Rattle.rulings.specs.declared.routes.Route.{Route}
use Rattle.rulings.specs.declared.routes.Route.TheVariants.{To, Refused}
use Rattle.rulings.specs.declared.rulings.Effect.{Effect}
use Rattle.rulings.specs.declared.rulings.Effect.TheVariants.{Nothing, Put, Remove, Open, Resize, Close, PutInForce}
use Rattle.rulings.specs.Ruling.{Ruling}
use Rattle.rulings.specs.State.{State, free_places}
use Rattle.gk_commands.specs.declared.commands.Command.{Command}
use Rattle.rulings.specs.Events.{PlainEvent, Registering, Unregistering, Admitting, Answering, Changing, Releasing, Reloading, endpoint_asking, put_in_force}
use Rattle.rulings.specs.Routing.{target_for, destination_of, route_of}
use Rattle.rulings.specs.Ruling.{unrouted, register_refusal, registration_unless, unregistration_ruling, admitted_call, admission_unless, admission_to, call_open_ruling, admission_ruling, answered_call, is_that, repeated_answer, answering_to, answering_ruling, change_unless, change_ruling, release_refused, release_ruling, ruling_of}
use Rattle.std.specs.Option.{option_and_then}
use Rattle.rulings.specs.declared.lacks.Lack.TheVariants.{Limit, Record}
use Rattle.rulings.specs.Lacks.{reply_without, no_memory_reply_of}
use Rattle.rulings.specs.Step.{is_recorded, places_needed, lack_if, are_endpoints_full, are_calls_full, count_refusal, with_registered, with_commands, with_effect}
use Rattle.admission.specs.HistoryLaws.{IsWithinLimits}
use Rattle.admission.proofs.CallsLemmas.{length-with_call, length-with_changed, length-without_call}
use Rattle.rulings.specs.Founded.{is_owned, IsFounded}

-- ---- what lacks nothing
-- it meets no limit
not_full : (event : PlainEvent) (refusal : Reply) (full short : Bool)
    → reply_without event Limit ≡ Some refusal
    → option_and_then (reply_without event) (lack_if full short) ≡ None → full ≡ false
not_full event refusal true short replied h = absurd (none-some refusal (sym h ∙ replied))
not_full event refusal false short replied h = refl

-- and the record has the places
not_short : (event : PlainEvent) (refusal : Reply) (full short : Bool) → full ≡ false
    → reply_without event Record ≡ Some refusal
    → option_and_then (reply_without event) (lack_if full short) ≡ None → short ≡ false
not_short event refusal true short free replied h = absurd (true≢false free)
not_short event refusal false true free replied h = absurd (none-some refusal (sym h ∙ replied))
not_short event refusal false false free replied h = refl

-- ---- by the kind of event
module _ (s : State) where
  registration_founded : (e : EndpointParts) (refusal : Option RegisterRefusal)
      → register_refusal s e ≡ refusal
      → are_endpoints_full s e (registration_unless s e refusal).verdict ≡ false
      → IsFounded s (Registering e) (registration_unless s e refusal).effect
  registration_founded e (Some refusal) same room = tt
  registration_founded e None same room = (same, refl, room)

  unregistration_founded : (id : List ℕ)
      → IsFounded s (Unregistering id) (unregistration_ruling s id).effect
  unregistration_founded id = by (is_registered s.endpoints id) (owns s.calls id) refl
    where
      by : (registered owning : Bool) → is_registered s.endpoints id ≡ registered
          → IsFounded s (Unregistering id)
          (cond registered
          (cond owning (unrouted (UnregisterRefused id unregister.CallInProgress) Nothing)
          (unrouted (Unregistered id) (Remove id)))
          (unrouted (UnregisterRefused id unregister.NotRegistered) Nothing)).effect
      by false owning same = tt
      by true true same = tt
      by true false same = same

  module _ (id digits : List ℕ) (call units : ℕ) where
    within_founded : (zone : List ℕ) (destination : Destination) (admitted : OpenCall)
        (over : Option Over)
        → is_open s.calls admitted.number ≡ false
        → are_calls_full s (admission_unless zone destination admitted over).effect ≡ false
        → IsFounded s (Admitting id call digits units)
        (admission_unless zone destination admitted over).effect
    within_founded zone destination admitted (Some over) closed room = tt
    within_founded zone destination admitted None closed room =
        record { closed = closed; room = room; fallible = refl }

    to_founded : (caller : EndpointParts) (route : Route)
        → is_open s.calls call ≡ false
        → are_calls_full s
        (admission_to s caller call units (target_for s.commands s.endpoints digits) route).effect
        ≡ false
        → IsFounded s (Admitting id call digits units)
        (admission_to s caller call units (target_for s.commands s.endpoints digits) route).effect
    to_founded caller (Refused refusal) closed room = tt
    to_founded caller (To destination) closed room =
        let admitted = admitted_call caller call units (target_for s.commands s.endpoints digits)
        destination in
        within_founded caller.zone destination admitted (over_of s.commands s.calls admitted)
        closed room

    admission_founded : (caller : Option EndpointParts)
        → are_calls_full s (admission_ruling s call digits units caller).effect ≡ false
        → IsFounded s (Admitting id call digits units)
        (admission_ruling s call digits units caller).effect
    admission_founded None room = tt
    admission_founded (Some caller) room = by (is_open s.calls call) refl room
      where
        by : (there : Bool) → is_open s.calls call ≡ there
            → are_calls_full s
            (cond there (call_open_ruling caller call)
            (admission_to s caller call units (target_for s.commands s.endpoints digits)
            (route_of s.commands s.endpoints caller.zone digits))).effect ≡ false
            → IsFounded s (Admitting id call digits units)
            (cond there (call_open_ruling caller call)
            (admission_to s caller call units (target_for s.commands s.endpoints digits)
            (route_of s.commands s.endpoints caller.zone digits))).effect
        by true same room = tt
        by false same room =
            to_founded caller (route_of s.commands s.endpoints caller.zone digits) same room

  module _ (id : List ℕ) (call units : ℕ) where
    answered_founded : (zone : List ℕ) (destination : Destination) (answered : OpenCall)
        (over : Option Over)
        → is_open s.calls answered.number ≡ false
        → are_calls_full s (admission_unless zone destination answered over).effect ≡ false
        → IsFounded s (Answering id call units)
        (admission_unless zone destination answered over).effect
    answered_founded zone destination answered (Some over) closed room = tt
    answered_founded zone destination answered None closed room =
        record { closed = closed; room = room; fallible = refl }

    answering_to_founded : (e : EndpointParts) (held : Option OpenCall)
        → call_of s.calls call ≡ held
        → are_calls_full s (answering_to s e call units held).effect ≡ false
        → IsFounded s (Answering id call units) (answering_to s e call units held).effect
    answering_to_founded e None found room =
        let answered = answered_call e call units in
        answered_founded e.zone (destination_of e.kind e) answered
        (over_of s.commands s.calls answered) (closed_if_none s.calls call found) room
    answering_to_founded e (Some held) found room = by (is_that e.id held.answerer)
      where
        by : (that : Bool)
            → IsFounded s (Answering id call units)
            (cond that (repeated_answer e call held.units) (call_open_ruling e call)).effect
        by true = tt
        by false = tt

    answering_founded : (endpoint : Option EndpointParts)
        → are_calls_full s (answering_ruling s call units endpoint).effect ≡ false
        → IsFounded s (Answering id call units) (answering_ruling s call units endpoint).effect
    answering_founded None room = tt
    answering_founded (Some e) room = answering_to_founded e (call_of s.calls call) refl room

  module _ (id : List ℕ) (call : ℕ) where
    change_unless_founded : (units : ℕ) (over : Option Over)
        → is_owned id (call_of s.calls call) ≡ true
        → IsFounded s (Changing id call units) (change_unless id call units over).effect
    change_unless_founded units (Some over) owned = tt
    change_unless_founded units None owned = owned

    change_founded : (units : ℕ) (held : Option OpenCall) → call_of s.calls call ≡ held
        → IsFounded s (Changing id call units) (change_ruling s id call units held).effect
    change_founded units None same = tt
    change_founded units (Some held) same = by (has_owner id held) refl
      where
        over : Option Over
        over = over_of s.commands s.calls (record held { units = units })

        by : (own : Bool) → has_owner id held ≡ own
            → IsFounded s (Changing id call units)
            (cond own (change_unless id call units over)
            (unrouted (ChangeRefused call change.NotYours) Nothing)).effect
        by false own = tt
        by true own = change_unless_founded units over (ap (is_owned id) same ∙ own)

    refused_founded : (reason : ReleaseRefusal)
        → IsFounded s (Releasing id call) (release_refused s id call reason).effect
    refused_founded reason = by (is_registered s.endpoints id)
      where
        by : (registered : Bool)
            → IsFounded s (Releasing id call)
            (cond registered (unrouted (ReleaseRefused call reason) Nothing)
            (unrouted (ReleaseRefused call release.NotRegistered) Nothing)).effect
        by true = tt
        by false = tt

    release_founded : (held : Option OpenCall) → call_of s.calls call ≡ held
        → IsFounded s (Releasing id call) (release_ruling s id call held).effect
    release_founded None same = refused_founded release.NoCall
    release_founded (Some held) same = by (has_owner id held) refl
      where
        by : (own : Bool) → has_owner id held ≡ own
            → IsFounded s (Releasing id call)
            (cond own (unrouted (Released call) (Close call id))
            (release_refused s id call release.NotYours)).effect
        by false own = refused_founded release.NotYours
        by true own = ap (is_owned id) same ∙ own

-- ---- of each event
pub founded : (s : State) (event : PlainEvent) → count_refusal s event (ruling_of s event) ≡ None
    → IsFounded s event (ruling_of s event).effect
unfolding ruling_of count_refusal
founded s (Registering e) h =
    registration_founded s e (register_refusal s e) refl (not_full (Registering e) _ _ _ refl h)
founded s (Unregistering id) h = unregistration_founded s id
founded s (Admitting id call digits units) h =
    admission_founded s id digits call units (endpoint_of s.endpoints id)
    (not_full (Admitting id call digits units) _ _ _ refl h)
founded s (Answering id call units) h =
    answering_founded s id call units (endpoint_of s.endpoints id)
    (not_full (Answering id call units) _ _ _ refl h)
founded s (Changing id call units) h = change_founded s id call units (call_of s.calls call) refl
founded s (Releasing id call) h = release_founded s id call (call_of s.calls call) refl
founded s (Reloading commands) h = record {
  puts = refl;
  left = ltb-false s.limits.reloads s.version (not_full (Reloading commands) _ _ _ refl h);
}

-- ---- releases
-- a release that is recorded is granted, and needs no place
module _ (s : State) (id : List ℕ) (call : ℕ) where
  refused_unrecorded : (reason : ReleaseRefusal)
      → is_recorded (release_refused s id call reason).verdict ≡ false
  refused_unrecorded reason = by (is_registered s.endpoints id)
    where
      by : (registered : Bool)
          → is_recorded (cond registered (unrouted (ReleaseRefused call reason) Nothing)
          (unrouted (ReleaseRefused call release.NotRegistered) Nothing)).verdict ≡ false
      by true = refl
      by false = refl

  closes_by : (held : Option OpenCall)
      → is_recorded (release_ruling s id call held).verdict ≡ true
      → places_needed (release_ruling s id call held).effect ≡ 0
  closes_by None recorded =
      absurd (true≢false (sym recorded ∙ refused_unrecorded release.NoCall))
  closes_by (Some held) recorded = by (has_owner id held) recorded
    where
      by : (own : Bool)
          → is_recorded (cond own (unrouted (Released call) (Close call id))
          (release_refused s id call release.NotYours)).verdict ≡ true
          → places_needed (cond own (unrouted (Released call) (Close call id))
          (release_refused s id call release.NotYours)).effect ≡ 0
      by true recorded = refl
      by false recorded =
          absurd (true≢false (sym recorded ∙ refused_unrecorded release.NotYours))

-- ---- places
-- the record has the places that are needed for a ruling that is recorded
pub places_are_free : (s : State) (event : PlainEvent)
    → count_refusal s event (ruling_of s event) ≡ None
    → is_recorded (ruling_of s event).verdict ≡ true
    → places_needed (ruling_of s event).effect ≤ free_places s
unfolding count_refusal ruling_of
places_are_free s (Registering e) h recorded =
    let full = not_full (Registering e) _ _ _ refl h in
    ltb-false (free_places s) _ (not_short (Registering e) _ _ _ full refl h)
places_are_free s (Unregistering id) h recorded =
    ltb-false (free_places s) _ (not_short (Unregistering id) _ false _ refl refl h)
places_are_free s (Admitting id call digits units) h recorded =
    let full = not_full (Admitting id call digits units) _ _ _ refl h in
    ltb-false (free_places s) _ (not_short (Admitting id call digits units) _ _ _ full refl h)
places_are_free s (Answering id call units) h recorded =
    let full = not_full (Answering id call units) _ _ _ refl h in
    ltb-false (free_places s) _ (not_short (Answering id call units) _ _ _ full refl h)
places_are_free s (Changing id call units) h recorded =
    ltb-false (free_places s) _ (not_short (Changing id call units) _ false _ refl refl h)
places_are_free s (Releasing id call) h recorded =
    let none = closes_by s id call (call_of s.calls call) recorded in omega (arith, none)
places_are_free s (Reloading commands) h recorded =
    let full = not_full (Reloading commands) _ _ _ refl h in
    ltb-false (free_places s) _ (not_short (Reloading commands) _ _ _ full refl h)

-- memory may run out only for an event that needs a place
pub may_lack_memory : (s : State) (event : PlainEvent)
    → is_recorded (ruling_of s event).verdict ≡ true
    → 1 ≤ places_needed (ruling_of s event).effect → IsSome (no_memory_reply_of event)
unfolding ruling_of
may_lack_memory s (Registering e) recorded one = refl
may_lack_memory s (Unregistering id) recorded one = refl
may_lack_memory s (Admitting id call digits units) recorded one = refl
may_lack_memory s (Answering id call units) recorded one = refl
may_lack_memory s (Changing id call units) recorded one = refl
may_lack_memory s (Releasing id call) recorded one =
    let none = closes_by s id call (call_of s.calls call) recorded in
    let impossible : ⊥ = omega (arith, none, one) in absurd impossible
may_lack_memory s (Reloading commands) recorded one = refl

-- ---- what room there is
module _ (s : State) (event : PlainEvent) (within : IsWithinLimits s) where
  -- the record has room for the entry
  pub one_fits : (effect : Effect) → IsFounded s event effect
      → places_needed effect ≤ free_places s → 1 + s.records ≤ s.limits.records
  one_fits Nothing founded free = omega (arith, free)
  one_fits (Put zone) founded free = omega (arith, free)
  one_fits (Remove id) founded free = omega (arith, free)
  one_fits (Open call) founded free = omega (arith, free)
  one_fits (Resize call id units) founded free = omega (arith, free)
  one_fits (Close call id) founded free =
      let fewer = length-without_call s.calls call id founded in
      omega (arith, within.records, fewer)
  one_fits PutInForce founded free = omega (arith, free)

module _ (s : State) (event : PlainEvent) (kept : ℕ) (enough : length s.calls ≤ kept) where
  -- a place is kept for it
  pub one_is_kept : (effect : Effect) → IsFounded s event effect
      → 1 ≤ kept + places_needed effect
  one_is_kept Nothing founded = omega arith
  one_is_kept (Put zone) founded = omega arith
  one_is_kept (Remove id) founded = omega arith
  one_is_kept (Open call) founded = omega arith
  one_is_kept (Resize call id units) founded = omega arith
  one_is_kept (Close call id) founded =
      let fewer = length-without_call s.calls call id founded in
      omega (arith, enough, fewer)
  one_is_kept PutInForce founded = omega arith

  -- and for the release of each call that is open then
  pub enough_are_kept : (effect : Effect) → IsFounded s event effect
      → length (with_effect s event effect).calls ≤ kept + places_needed effect - 1
  enough_are_kept Nothing founded = omega (arith, enough)
  enough_are_kept (Put zone) founded = by (endpoint_asking event)
    where
      by : (asking : Option EndpointParts)
          → length (with_registered s zone asking).calls ≤ kept + 1 - 1
      by None = omega (arith, enough)
      by (Some e) = omega (arith, enough)
  enough_are_kept (Remove id) founded = omega (arith, enough)
  enough_are_kept (Open call) founded = omega (arith, enough, length-with_call s.calls call)
  enough_are_kept (Resize call id units) founded =
      omega (arith, enough, length-with_changed s.calls call units)
  enough_are_kept (Close call id) founded =
      let fewer = length-without_call s.calls call id founded in
      omega (arith, enough, fewer)
  enough_are_kept PutInForce founded = by (put_in_force event)
    where
      by : (asked : Option (List Command))
          → length (with_commands s asked).calls ≤ kept + 1 - 1
      by None = omega (arith, enough)
      by (Some commands) = omega (arith, enough)

-- ---- as a ruling is carried out
-- a place is needed, if no more than those reserved could be had for a short entry
pub some_needed : (needed more reserved bytes : ℕ) → more ≡ needed - reserved
    → (needed ≡ 0 → bytes ≤ 138) → (bytes ≤ 138 → more ≡ 0 → ⊥) → 1 ≤ needed
some_needed zero more reserved bytes is short fails =
    absurd (fails (short refl) (omega (arith, is)))
some_needed (suc n) more reserved bytes is short fails = omega arith

module _ (s : State) (event : PlainEvent) (ruling : Ruling) (ruled : ruling ≡ ruling_of s event)
    (free : count_refusal s event ruling ≡ None) where
  none_refuses : count_refusal s event (ruling_of s event) ≡ None
  none_refuses = ap (count_refusal s event) (sym ruled) ∙ free

  pub ruled_founded : IsFounded s event ruling.effect
  ruled_founded =
      subst (λ (r : Ruling). IsFounded s event r.effect) (sym ruled) (founded s event none_refuses)

  module _ (recorded : is_recorded ruling.verdict ≡ true) where
    verdict_recorded : is_recorded (ruling_of s event).verdict ≡ true
    verdict_recorded = ap (λ (r : Ruling). is_recorded r.verdict) (sym ruled) ∙ recorded

    pub ruled_places : places_needed ruling.effect ≤ free_places s
    ruled_places =
        subst (λ (r : Ruling). places_needed r.effect ≤ free_places s) (sym ruled)
        (places_are_free s event none_refuses verdict_recorded)

    pub ruled_lacks : 1 ≤ places_needed ruling.effect → IsSome (no_memory_reply_of event)
    ruled_lacks one =
        may_lack_memory s event verdict_recorded
        (subst (λ (r : Ruling). 1 ≤ places_needed r.effect) ruled one)

    pub ruled_fits : IsWithinLimits s → 1 + s.records ≤ s.limits.records
    ruled_fits within = one_fits s event within ruling.effect ruled_founded ruled_places

  pub ruled_one : (kept : ℕ) → length s.calls ≤ kept → 1 ≤ kept + places_needed ruling.effect
  ruled_one kept enough = one_is_kept s event kept enough ruling.effect ruled_founded

  pub ruled_enough : (kept : ℕ) → length s.calls ≤ kept
      → length (with_effect s event ruling.effect).calls
      ≤ kept + places_needed ruling.effect - 1
  ruled_enough kept enough = enough_are_kept s event kept enough ruling.effect ruled_founded
