-- What is ruled if bandwidth is granted or refused: the call fits, or it does not.
use Rattle.std.proofs.Common.{◌≡◌, Bool, true, false, cond, List, Option, Some, None, refl, sym, ap, ◌∙◌, true≢false}
use Rattle.std.specs.Prelude.{ℕ}
use Rattle.std.proofs.lemmas.Slice.Eq.{bytes_eq-Decides}
use Rattle.registry.specs.Endpoint.{EndpointParts}
use Rattle.registry.specs.Registration.{endpoint_of, is_registered}
use Rattle.bandwidth.specs.declared.open_call.OpenCall.{OpenCall}
use Rattle.bandwidth.specs.declared.over.Over.{Over}
use Rattle.bandwidth.specs.Calls.{call_of, is_open, owns, has_owner}
use Rattle.bandwidth.specs.Fits.{over_of}
use Rattle.bandwidth.proofs.CallLemmas.{closed_if_none, none_if_closed}
use Rattle.rulings.specs.declared.replies.RegisterRefusal.{RegisterRefusal}
use Rattle.rulings.specs.declared.replies.ReleaseRefusal.{ReleaseRefusal}
use Rattle.rulings.specs.declared.replies.UnregisterRefusal.TheVariants as unregister
use Rattle.rulings.specs.declared.replies.ChangeRefusal.TheVariants as change
use Rattle.rulings.specs.declared.replies.ReleaseRefusal.TheVariants as release
use Rattle.rulings.specs.declared.replies.Reply.{Reply}
use Rattle.rulings.specs.declared.replies.Reply.TheVariants.{Registered, RegisterRefused, Unregistered, UnregisterRefused, Admitted, AdmitRefused, Changed, ChangeRefused, Released, ReleaseRefused, Reloaded, ReloadRefused}
use Rattle.rulings.specs.declared.routes.Destination.{Destination}
use Rattle.rulings.specs.declared.routes.Route.{Route}
use Rattle.rulings.specs.declared.routes.Route.TheVariants.{To, Refused}
use Rattle.rulings.specs.declared.rulings.Effect.TheVariants.{Nothing, Remove, Open, Resize, Close}
use Rattle.rulings.specs.Ruling.{Ruling}
use Rattle.rulings.specs.State.{State}
use Rattle.rulings.specs.Events.{PlainEvent, Registering, Unregistering, Admitting, Answering, Changing, Releasing, Reloading}
use Rattle.rulings.specs.Routing.{target_for, destination_of, route_of}
use Rattle.rulings.proofs.AdmittingLemmas.{caller_has_id}
use Rattle.admission.specs.AnswerLaws.{IsAnswerTo}
use Rattle.admission.specs.HistoryLaws.{Asks, ToBeAdmitted, ToBeAnswered, ToBeChanged, sum_named}
use Rattle.rulings.specs.Ruling.{unrouted, register_refusal, registration_unless, unregistration_ruling, admitted_call, admission_unless, admission_to, call_open_ruling, admission_ruling, answered_call, is_that, repeated_answer, answering_to, answering_ruling, change_unless, change_ruling, release_refused, release_ruling, ruling_of}

-- the replies that may grant bandwidth
abbrev pub gives_bandwidth : Reply → Bool
gives_bandwidth (Registered id zone) = false
gives_bandwidth (RegisterRefused id reason) = false
gives_bandwidth (Unregistered id) = false
gives_bandwidth (UnregisterRefused id reason) = false
gives_bandwidth (Admitted call destination units) = true
gives_bandwidth (AdmitRefused call reason) = false
gives_bandwidth (Changed call units) = true
gives_bandwidth (ChangeRefused call reason) = false
gives_bandwidth (Released call) = false
gives_bandwidth (ReleaseRefused call reason) = false
gives_bandwidth (Reloaded version) = false
gives_bandwidth (ReloadRefused reason) = false

-- the endpoint that answers is this ID
pub that_is : (id : List ℕ) (answerer : Option (List ℕ)) → is_that id answerer ≡ true
    → answerer ≡ Some id
that_is id None that = absurd (true≢false (sym that))
that_is id (Some other) that = ap Some ((bytes_eq-Decides other id).0 that)

-- what stands behind a ruling: none, a call that does not fit, one that is not open and fits, one
-- that is open and stays as it is for the endpoint that answers it, or one that fits with more
pub data IsBehind (s : State) (event : PlainEvent) (ruling : Ruling) : Type 0 where
  Other : gives_bandwidth ruling.verdict ≡ false → sum_named ruling.verdict ≡ None
      → IsBehind s event ruling
  Refusing : gives_bandwidth ruling.verdict ≡ false → (over : Over) (call : OpenCall)
      → sum_named ruling.verdict ≡ Some over → Asks s event call
      → over_of s.commands s.calls call ≡ Some over → IsBehind s event ruling
  Opening : (destination : Destination) (call : OpenCall)
      → ruling.verdict ≡ Admitted call.number destination call.units
      → ruling.effect ≡ Open call → is_open s.calls call.number ≡ false
      → over_of s.commands s.calls call ≡ None → IsBehind s event ruling
  Repeating : (number : ℕ) (destination : Destination) (held : OpenCall)
      → ruling.verdict ≡ Admitted number destination held.units
      → ruling.effect ≡ Nothing → call_of s.calls number ≡ Some held
      → IsAnswerTo held number event → IsBehind s event ruling
  Changing_to : (number units : ℕ) (id : List ℕ) (held : OpenCall)
      → ruling.verdict ≡ Changed number units → ruling.effect ≡ Resize number id units
      → call_of s.calls number ≡ Some held
      → over_of s.commands s.calls (record held { units = units }) ≡ None → IsBehind s event ruling

module _ (s : State) where
  registration_behind : (e : EndpointParts) (refusal : Option RegisterRefusal)
      → IsBehind s (Registering e) (registration_unless s e refusal)
  registration_behind e (Some refusal) = Other refl refl
  registration_behind e None = Other refl refl

  unregistration_behind : (id : List ℕ)
      → IsBehind s (Unregistering id) (unregistration_ruling s id)
  unregistration_behind id = by (is_registered s.endpoints id) (owns s.calls id)
    where
      by : (registered owning : Bool)
          → IsBehind s (Unregistering id)
          (cond registered
          (cond owning (unrouted (UnregisterRefused id unregister.CallInProgress) Nothing)
          (unrouted (Unregistered id) (Remove id)))
          (unrouted (UnregisterRefused id unregister.NotRegistered) Nothing))
      by false owning = Other refl refl
      by true true = Other refl refl
      by true false = Other refl refl

  module _ (id digits : List ℕ) (call units : ℕ) where
    abbrev call_to : EndpointParts → Destination → OpenCall
    call_to caller destination =
        admitted_call caller call units (target_for s.commands s.endpoints digits) destination

    within_behind : (caller : EndpointParts) (destination : Destination) (over : Option Over)
        → endpoint_of s.endpoints id ≡ Some caller
        → route_of s.commands s.endpoints caller.zone digits ≡ To destination
        → over_of s.commands s.calls (call_to caller destination) ≡ over
        → is_open s.calls call ≡ false
        → IsBehind s (Admitting id call digits units)
        (admission_unless caller.zone destination (call_to caller destination) over)
    within_behind caller destination (Some over) there leads fits closed =
        Refusing refl over (call_to caller destination) refl
        (ToBeAdmitted id digits call units caller destination there leads
        (none_if_closed s.calls call closed)) fits
    within_behind caller destination None there leads fits closed =
        Opening destination (call_to caller destination) refl refl closed fits

    to_behind : (caller : EndpointParts) (route : Route)
        → endpoint_of s.endpoints id ≡ Some caller
        → route_of s.commands s.endpoints caller.zone digits ≡ route
        → is_open s.calls call ≡ false
        → IsBehind s (Admitting id call digits units)
        (admission_to s caller call units (target_for s.commands s.endpoints digits) route)
    to_behind caller (Refused refusal) there leads closed = Other refl refl
    to_behind caller (To destination) there leads closed =
        within_behind caller destination
        (over_of s.commands s.calls (call_to caller destination)) there leads refl closed

    admission_behind : (caller : Option EndpointParts) → endpoint_of s.endpoints id ≡ caller
        → IsBehind s (Admitting id call digits units) (admission_ruling s call digits units caller)
    admission_behind None there = Other refl refl
    admission_behind (Some caller) there = by (is_open s.calls call) refl
      where
        by : (open_already : Bool) → is_open s.calls call ≡ open_already
            → IsBehind s (Admitting id call digits units)
            (cond open_already (call_open_ruling caller call)
            (admission_to s caller call units (target_for s.commands s.endpoints digits)
            (route_of s.commands s.endpoints caller.zone digits)))
        by true same = Other refl refl
        by false same =
            to_behind caller (route_of s.commands s.endpoints caller.zone digits) there refl same

  module _ (id : List ℕ) (call units : ℕ) where
    answered_behind : (e : EndpointParts) (over : Option Over)
        → endpoint_of s.endpoints id ≡ Some e
        → over_of s.commands s.calls (answered_call e call units) ≡ over
        → is_open s.calls call ≡ false
        → IsBehind s (Answering id call units)
        (admission_unless e.zone (destination_of e.kind e) (answered_call e call units) over)
    answered_behind e (Some over) there fits closed =
        Refusing refl over (answered_call e call units) refl
        (ToBeAnswered id call units e there (none_if_closed s.calls call closed)) fits
    answered_behind e None there fits closed =
        Opening (destination_of e.kind e) (answered_call e call units) refl refl closed fits

    answering_to_behind : (e : EndpointParts) (held : Option OpenCall)
        → endpoint_of s.endpoints id ≡ Some e → call_of s.calls call ≡ held
        → IsBehind s (Answering id call units) (answering_to s e call units held)
    answering_to_behind e None there found =
        answered_behind e (over_of s.commands s.calls (answered_call e call units)) there refl
        (closed_if_none s.calls call found)
    answering_to_behind e (Some held) there found = by (is_that e.id held.answerer) refl
      where
        by : (that : Bool) → is_that e.id held.answerer ≡ that
            → IsBehind s (Answering id call units)
            (cond that (repeated_answer e call held.units) (call_open_ruling e call))
        by true that =
            Repeating call (destination_of e.kind e) held refl refl found
            (record {
              id = id;
              asked = units;
              answers = refl;
              admitted = that_is e.id held.answerer that
                  ∙ ap Some (caller_has_id s.endpoints id e there);
            })
        by false that = Other refl refl

    answering_behind : (endpoint : Option EndpointParts) → endpoint_of s.endpoints id ≡ endpoint
        → IsBehind s (Answering id call units) (answering_ruling s call units endpoint)
    answering_behind None there = Other refl refl
    answering_behind (Some e) there = answering_to_behind e (call_of s.calls call) there refl

  module _ (id : List ℕ) (call : ℕ) where
    change_unless_behind : (units : ℕ) (held : OpenCall) (over : Option Over)
        → call_of s.calls call ≡ Some held
        → over_of s.commands s.calls (record held { units = units }) ≡ over
        → IsBehind s (Changing id call units) (change_unless id call units over)
    change_unless_behind units held (Some over) found fits =
        Refusing refl over (record held { units = units }) refl
        (ToBeChanged id call units held found)
        fits
    change_unless_behind units held None found fits =
        Changing_to call units id held refl refl found fits

    change_behind : (units : ℕ) (held : Option OpenCall) → call_of s.calls call ≡ held
        → IsBehind s (Changing id call units) (change_ruling s id call units held)
    change_behind units None found = Other refl refl
    change_behind units (Some held) found = by (has_owner id held)
      where
        by : (own : Bool)
            → IsBehind s (Changing id call units)
            (cond own
            (change_unless id call units
            (over_of s.commands s.calls (record held { units = units })))
            (unrouted (ChangeRefused call change.NotYours) Nothing))
        by false = Other refl refl
        by true =
            change_unless_behind units held
            (over_of s.commands s.calls (record held { units = units })) found refl

    refused_behind : (reason : ReleaseRefusal)
        → IsBehind s (Releasing id call) (release_refused s id call reason)
    refused_behind reason = by (is_registered s.endpoints id)
      where
        by : (registered : Bool)
            → IsBehind s (Releasing id call)
            (cond registered (unrouted (ReleaseRefused call reason) Nothing)
            (unrouted (ReleaseRefused call release.NotRegistered) Nothing))
        by true = Other refl refl
        by false = Other refl refl

    release_behind : (held : Option OpenCall)
        → IsBehind s (Releasing id call) (release_ruling s id call held)
    release_behind None = refused_behind release.NoCall
    release_behind (Some held) = by (has_owner id held)
      where
        by : (own : Bool)
            → IsBehind s (Releasing id call)
            (cond own (unrouted (Released call) (Close call id))
            (release_refused s id call release.NotYours))
        by false = refused_behind release.NotYours
        by true = Other refl refl

-- of each event
pub behind : (s : State) (event : PlainEvent) → IsBehind s event (ruling_of s event)
unfolding ruling_of
behind s (Registering e) = registration_behind s e (register_refusal s e)
behind s (Unregistering id) = unregistration_behind s id
behind s (Admitting id call digits units) =
    admission_behind s id digits call units (endpoint_of s.endpoints id) refl
behind s (Answering id call units) =
    answering_behind s id call units (endpoint_of s.endpoints id) refl
behind s (Changing id call units) = change_behind s id call units (call_of s.calls call) refl
behind s (Releasing id call) = release_behind s id call (call_of s.calls call)
behind s (Reloading commands) = Other refl refl
