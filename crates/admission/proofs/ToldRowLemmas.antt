-- What an entry says of calls, and what its ruling changes.
use Rattle.std.proofs.Common.{◌≡◌, ℕ, Bool, true, false, not, cond, List, Option, Some, None, refl}
use Rattle.registry.specs.Endpoint.{EndpointParts}
use Rattle.registry.specs.declared.endpoints.EndpointKind.{EndpointKind}
use Rattle.registry.specs.declared.endpoints.EndpointKind.TheVariants as kinds
use Rattle.registry.specs.Registration.{endpoint_of, is_registered}
use Rattle.bandwidth.specs.declared.open_call.OpenCall.{OpenCall}
use Rattle.bandwidth.specs.declared.over.Over.{Over}
use Rattle.bandwidth.specs.Calls.{call_of, is_open, has_owner, owns}
use Rattle.bandwidth.specs.Fits.{over_of}
use Rattle.call_rows.specs.declared.rows.AdmittedCall.{AdmittedCall}
use Rattle.call_rows.specs.declared.rows.AnsweredCall.{AnsweredCall}
use Rattle.call_rows.specs.declared.rows.CallEvent.{CallEvent}
use Rattle.call_rows.specs.declared.rows.CallEvent.TheVariants as rows
use Rattle.call_rows.specs.Rows.{leads_somewhere, leads_to_an_endpoint}
use Rattle.rulings.specs.declared.replies.RegisterRefusal.{RegisterRefusal}
use Rattle.rulings.specs.declared.replies.UnregisterRefusal.TheVariants as unregister
use Rattle.rulings.specs.declared.replies.ChangeRefusal.TheVariants as change
use Rattle.rulings.specs.declared.replies.ReleaseRefusal.{ReleaseRefusal}
use Rattle.rulings.specs.declared.replies.ReleaseRefusal.TheVariants as release
use Rattle.rulings.specs.declared.replies.Reply.TheVariants.{Unregistered, UnregisterRefused, ChangeRefused, Released, ReleaseRefused}
use Rattle.rulings.specs.declared.routes.Destination.{Destination}
use Rattle.rulings.specs.declared.routes.Route.{Route}
use Rattle.rulings.specs.declared.routes.Route.TheVariants.{To, Refused}
use Rattle.rulings.specs.declared.rulings.Effect.{Effect}
use Rattle.rulings.specs.declared.rulings.Effect.TheVariants.{Nothing, Put, Remove, Open, Resize, Close, PutInForce}
use Rattle.rulings.specs.State.{State}
use Rattle.rulings.specs.Events.{PlainEvent, Registering, Unregistering, Admitting, Answering, Changing, Releasing, Reloading}
use Rattle.rulings.specs.Routing.{target_for, destination_of, route_of}
use Rattle.rulings.specs.Ruling.{Ruling, unrouted, register_refusal, registration_unless, admitted_call, admission_unless, admission_to, call_open_ruling, admission_ruling, answered_call, is_that, repeated_answer, answering_to, answering_ruling, change_unless, change_ruling, release_refused, release_ruling, ruling_of}
use Rattle.rulings.specs.Step.{opens_call}
use Rattle.decision_record.specs.Rows.{event_said}

-- what is said opens no call, and changes and closes none
abbrev pub opens_none : Option CallEvent → Bool
opens_none None = true
opens_none (Some (rows.Admitted asked)) = not asked.granted
opens_none (Some (rows.Answered asked)) = not asked.granted
opens_none (Some (rows.Changed call units)) = false
opens_none (Some (rows.Released call)) = false

-- a granted admission to a call of this number, or a granted answer to one
pub data IsOpening (number : ℕ) : CallEvent → Type 0 where
  ByAdmission : (asked : AdmittedCall) → asked.granted ≡ true → leads_somewhere asked.route ≡ true
      → asked.call ≡ number → IsOpening number (rows.Admitted asked)
  ByAnswer : (asked : AnsweredCall) → asked.granted ≡ true
      → leads_to_an_endpoint asked.route ≡ true → asked.call ≡ number
      → IsOpening number (rows.Answered asked)

-- it is said that a call of this number was opened
pub record IsGranted (said : Option CallEvent) (number : ℕ) : Type 0 where
  pub event : CallEvent
  pub said_is : said ≡ Some event
  pub opening : IsOpening number event

-- what is said is what the effect changes
abbrev pub Tells : Option CallEvent → Effect → Type 0
Tells said Nothing = opens_none said ≡ true
Tells said (Put zone) = said ≡ None
Tells said (Remove id) = said ≡ None
Tells said (Open call) = IsGranted said call.number
Tells said (Resize call id units) = said ≡ Some (rows.Changed call units)
Tells said (Close call id) = said ≡ Some (rows.Released call)
Tells said PutInForce = said ≡ None

-- what is said of an event by its ruling
abbrev pub said_by : PlainEvent → Ruling → Option CallEvent
said_by event ruling =
    event_said event ruling.verdict ruling.zone ruling.route (opens_call ruling.effect)

-- what is said of an event by its ruling is what that changes
abbrev pub TellsOf : PlainEvent → Ruling → Type 0
TellsOf event ruling = Tells (said_by event ruling) ruling.effect

module _ (s : State) where
  registration_tells : (e : EndpointParts) (refusal : Option RegisterRefusal)
      → TellsOf (Registering e) (registration_unless s e refusal)
  registration_tells e None = refl
  registration_tells e (Some refusal) = refl

  unregistration_tells : (id : List ℕ) (registered owning : Bool)
      → TellsOf (Unregistering id)
      (cond registered
      (cond owning (unrouted (UnregisterRefused id unregister.CallInProgress) Nothing)
      (unrouted (Unregistered id) (Remove id)))
      (unrouted (UnregisterRefused id unregister.NotRegistered) Nothing))
  unregistration_tells id false owning = refl
  unregistration_tells id true true = refl
  unregistration_tells id true false = refl

  module _ (id digits : List ℕ) (call units : ℕ) where
    within_tells : (caller : EndpointParts) (destination : Destination) (over : Option Over)
        → TellsOf (Admitting id call digits units)
        (admission_unless caller.zone destination
        (admitted_call caller call units (target_for s.commands s.endpoints digits) destination)
        over)
    within_tells caller destination (Some over) = refl
    within_tells caller destination None =
        let asked : AdmittedCall = record {
          call = call;
          zone = caller.zone;
          digits = digits;
          units = units;
          granted = true;
          route = To destination;
        } in
        record {
          event = rows.Admitted asked;
          said_is = refl;
          opening = ByAdmission asked refl refl refl;
        }

    to_tells : (caller : EndpointParts) (route : Route)
        → TellsOf (Admitting id call digits units)
        (admission_to s caller call units (target_for s.commands s.endpoints digits) route)
    to_tells caller (Refused refusal) = refl
    to_tells caller (To destination) =
        within_tells caller destination
        (over_of s.commands s.calls
        (admitted_call caller call units (target_for s.commands s.endpoints digits) destination))

    admission_tells : (caller : Option EndpointParts)
        → TellsOf (Admitting id call digits units) (admission_ruling s call digits units caller)
    admission_tells None = refl
    admission_tells (Some caller) = by (is_open s.calls call)
      where
        by : (there : Bool)
            → TellsOf (Admitting id call digits units)
            (cond there (call_open_ruling caller call)
            (admission_to s caller call units (target_for s.commands s.endpoints digits)
            (route_of s.commands s.endpoints caller.zone digits)))
        by true = refl
        by false = to_tells caller (route_of s.commands s.endpoints caller.zone digits)

  -- an endpoint as the destination is one
  leads_there : (kind : EndpointKind) (e : EndpointParts)
      → leads_to_an_endpoint (To (destination_of kind e)) ≡ true
  leads_there kinds.Gateway e = refl
  leads_there kinds.Terminal e = refl

  module _ (id : List ℕ) (call units : ℕ) where
    answered_tells : (e : EndpointParts) (over : Option Over)
        → TellsOf (Answering id call units)
        (admission_unless e.zone (destination_of e.kind e) (answered_call e call units) over)
    answered_tells e (Some over) = refl
    answered_tells e None =
        let asked : AnsweredCall = record {
          call = call;
          zone = e.zone;
          units = units;
          granted = true;
          route = To (destination_of e.kind e);
        } in
        record {
          event = rows.Answered asked;
          said_is = refl;
          opening = ByAnswer asked refl (leads_there e.kind e) refl;
        }

    answering_to_tells : (e : EndpointParts) (held : Option OpenCall)
        → TellsOf (Answering id call units) (answering_to s e call units held)
    answering_to_tells e None =
        answered_tells e (over_of s.commands s.calls (answered_call e call units))
    answering_to_tells e (Some held) = by (is_that e.id held.answerer)
      where
        by : (that : Bool)
            → TellsOf (Answering id call units)
            (cond that (repeated_answer e call held.units) (call_open_ruling e call))
        by true = refl
        by false = refl

    answering_tells : (endpoint : Option EndpointParts)
        → TellsOf (Answering id call units) (answering_ruling s call units endpoint)
    answering_tells None = refl
    answering_tells (Some e) = answering_to_tells e (call_of s.calls call)

  module _ (id : List ℕ) (call : ℕ) where
    change_unless_tells : (units : ℕ) (over : Option Over)
        → TellsOf (Changing id call units) (change_unless id call units over)
    change_unless_tells units (Some over) = refl
    change_unless_tells units None = refl

    change_tells : (units : ℕ) (held : Option OpenCall)
        → TellsOf (Changing id call units) (change_ruling s id call units held)
    change_tells units None = refl
    change_tells units (Some held) = by (has_owner id held)
      where
        over : Option Over
        over = over_of s.commands s.calls (record held { units = units })

        by : (own : Bool)
            → TellsOf (Changing id call units)
            (cond own (change_unless id call units over)
            (unrouted (ChangeRefused call change.NotYours) Nothing))
        by false = refl
        by true = change_unless_tells units over

    refused_tells : (reason : ReleaseRefusal)
        → TellsOf (Releasing id call) (release_refused s id call reason)
    refused_tells reason = by (is_registered s.endpoints id)
      where
        by : (registered : Bool)
            → TellsOf (Releasing id call)
            (cond registered (unrouted (ReleaseRefused call reason) Nothing)
            (unrouted (ReleaseRefused call release.NotRegistered) Nothing))
        by true = refl
        by false = refl

    release_tells : (held : Option OpenCall)
        → TellsOf (Releasing id call) (release_ruling s id call held)
    release_tells None = refused_tells release.NoCall
    release_tells (Some held) = by (has_owner id held)
      where
        by : (own : Bool)
            → TellsOf (Releasing id call)
            (cond own (unrouted (Released call) (Close call id))
            (release_refused s id call release.NotYours))
        by true = refl
        by false = refused_tells release.NotYours

-- ---- of each event
pub tells : (s : State) (event : PlainEvent) → TellsOf event (ruling_of s event)
unfolding ruling_of
tells s (Registering e) = registration_tells s e (register_refusal s e)
tells s (Unregistering id) =
    unregistration_tells s id (is_registered s.endpoints id) (owns s.calls id)
tells s (Admitting id call digits units) =
    admission_tells s id digits call units (endpoint_of s.endpoints id)
tells s (Answering id call units) =
    answering_tells s id call units (endpoint_of s.endpoints id)
tells s (Changing id call units) = change_tells s id call units (call_of s.calls call)
tells s (Releasing id call) = release_tells s id call (call_of s.calls call)
tells s (Reloading commands) = refl
