-- What is ruled of an event in a state: the verdict, what its entry tells of an admission, and what
-- it changes. The verdict, the entry and the effect of an event are parts of its ruling.
use Rattle.std.specs.Prelude.{ℕ, ◌+◌, Bool, true, false, List, Option, Some, None, bytes_eq, if◌then◌else◌}
use Rattle.compiler.specs.Zones.{zone_meant}
use Rattle.compiler.specs.Plan.{Target, zone_of_target, is_remote}
use Rattle.registry.specs.Endpoint.{EndpointParts}
use Rattle.registry.specs.Registration.{registration_refusal, endpoint_of, is_registered}
use Rattle.bandwidth.specs.declared.open_call.OpenCall.{OpenCall}
use Rattle.bandwidth.specs.declared.over.Over.{Over}
use Rattle.bandwidth.specs.Calls.{call_of, is_open, owns, has_owner}
use Rattle.bandwidth.specs.Fits.{over_of}
use Rattle.rulings.specs.declared.routes.Destination.{Destination}
use Rattle.rulings.specs.declared.routes.Destination.TheVariants as destinations
use Rattle.rulings.specs.declared.routes.Route.{Route}
use Rattle.rulings.specs.declared.routes.Route.TheVariants.{To, Refused}
use Rattle.rulings.specs.declared.replies.RegisterRefusal.{RegisterRefusal}
use Rattle.rulings.specs.declared.replies.RegisterRefusal.TheVariants as register
use Rattle.rulings.specs.declared.replies.UnregisterRefusal.TheVariants as unregister
use Rattle.rulings.specs.declared.replies.AdmitRefusal.TheVariants as admit
use Rattle.rulings.specs.declared.replies.ChangeRefusal.TheVariants as change
use Rattle.rulings.specs.declared.replies.ReleaseRefusal.{ReleaseRefusal}
use Rattle.rulings.specs.declared.replies.ReleaseRefusal.TheVariants as release
use Rattle.rulings.specs.declared.replies.Reply.{Reply}
use Rattle.rulings.specs.declared.replies.Reply.TheVariants.{Registered, RegisterRefused, Unregistered, UnregisterRefused, Admitted, AdmitRefused, Changed, ChangeRefused, Released, ReleaseRefused, Reloaded}
use Rattle.rulings.specs.declared.rulings.Effect.{Effect}
use Rattle.rulings.specs.declared.rulings.Effect.TheVariants as effects
use Rattle.rulings.specs.State.{State}
use Rattle.rulings.specs.Events.{PlainEvent, Registering, Unregistering, Admitting, Answering, Changing, Releasing, Reloading}
use Rattle.rulings.specs.Routing.{target_for, destination_of, route_of}

-- what is ruled of an event, apart from counts and memory: the verdict; of an admission or an
-- answer the zone of the endpoint that asks, if it is registered, and where the call leads, if that
-- was looked for; and what it changes
pub record Ruling : Type 0 where
  pub verdict : Reply
  pub zone : Option (List ℕ)
  pub route : Option Route
  pub effect : Effect

-- a ruling on an event that is not routed
abbrev pub unrouted : Reply → Effect → Ruling
unrouted verdict effect =
    record { verdict = verdict; zone = None; route = None; effect = effect }

-- ---- registrations
-- why an endpoint may not register, apart from the counts: the first of three refusals
abbrev pub register_refusal : State → EndpointParts → Option RegisterRefusal
register_refusal s e =
    registration_refusal register.UnknownZone register.DuplicateAlias s.commands s.endpoints e

abbrev pub registration_unless : State → EndpointParts → Option RegisterRefusal → Ruling
registration_unless s e (Some refusal) = unrouted (RegisterRefused e.id refusal) effects.Nothing
registration_unless s e None =
    let zone = zone_meant s.commands e.zone in
    unrouted (Registered e.id zone) (effects.Put zone)

abbrev pub registration_ruling : State → EndpointParts → Ruling
registration_ruling s e = registration_unless s e (register_refusal s e)

-- ---- unregistrations
-- an endpoint that is not registered, or that owns an open call, may not
abbrev pub unregistration_ruling : State → List ℕ → Ruling
unregistration_ruling s id =
    if is_registered s.endpoints id
    then (if owns s.calls id
    then unrouted (UnregisterRefused id unregister.CallInProgress) effects.Nothing
    else unrouted (Unregistered id) (effects.Remove id))
    else unrouted (UnregisterRefused id unregister.NotRegistered) effects.Nothing

-- ---- admissions
-- the gateway or terminal to which a call is admitted, if it is to one
abbrev pub answerer_of : Destination → Option (List ℕ)
answerer_of (destinations.Gateway id address) = Some id
answerer_of (destinations.Terminal id address) = Some id
answerer_of (destinations.Zone name address) = None

-- the call that an admission of this caller to this destination would open
abbrev pub admitted_call : EndpointParts → ℕ → ℕ → Target → Destination → OpenCall
admitted_call caller call units target destination = record {
  number = call;
  owner = caller.id;
  source = Some caller.zone;
  target = zone_of_target caller.zone target;
  remote = is_remote target;
  units = units;
  answerer = answerer_of destination;
}

-- to a destination, unless a sum of the call would be above its limit
abbrev pub admission_unless : List ℕ → Destination → OpenCall → Option Over → Ruling
admission_unless zone destination call None = record {
  verdict = Admitted call.number destination call.units;
  zone = Some zone;
  route = Some (To destination);
  effect = effects.Open call;
}
admission_unless zone destination call (Some over) = record {
  verdict = AdmitRefused call.number (admit.OverLimit over);
  zone = Some zone;
  route = Some (To destination);
  effect = effects.Nothing;
}

-- by the route of the digits
abbrev pub admission_to : State → EndpointParts → ℕ → ℕ → Target → Route → Ruling
admission_to s caller call units target (Refused refusal) = record {
  verdict = AdmitRefused call (admit.NoRoute refusal);
  zone = Some caller.zone;
  route = Some (Refused refusal);
  effect = effects.Nothing;
}
admission_to s caller call units target (To destination) =
    let admitted = admitted_call caller call units target destination in
    admission_unless caller.zone destination admitted (over_of s.commands s.calls admitted)

-- the number of the call is an open call's
abbrev pub call_open_ruling : EndpointParts → ℕ → Ruling
call_open_ruling caller call = record {
  verdict = AdmitRefused call admit.CallOpen;
  zone = Some caller.zone;
  route = None;
  effect = effects.Nothing;
}

-- the caller is registered, no call of the number is open, then the digits decide, and then the
-- limits
abbrev pub admission_ruling : State → ℕ → List ℕ → ℕ → Option EndpointParts → Ruling
admission_ruling s call digits units None =
    unrouted (AdmitRefused call admit.CallerNotRegistered) effects.Nothing
admission_ruling s call digits units (Some caller) =
    if is_open s.calls call then call_open_ruling caller call
    else admission_to s caller call units (target_for s.commands s.endpoints digits)
    (route_of s.commands s.endpoints caller.zone digits)

-- ---- answers
-- the call from a zone of another gatekeeper that an endpoint would answer: where it comes from is
-- not known
abbrev pub answered_call : EndpointParts → ℕ → ℕ → OpenCall
answered_call e call units = record {
  number = call;
  owner = e.id;
  source = None;
  target = e.zone;
  remote = true;
  units = units;
  answerer = None;
}

-- whether it is this ID
abbrev pub is_that : List ℕ → Option (List ℕ) → Bool
is_that id None = false
is_that id (Some other) = bytes_eq other id

-- the endpoint itself, with the bandwidth of the open call that was admitted to it; nothing changes
abbrev pub repeated_answer : EndpointParts → ℕ → ℕ → Ruling
repeated_answer e call units = record {
  verdict = Admitted call (destination_of e.kind e) units;
  zone = Some e.zone;
  route = Some (To (destination_of e.kind e));
  effect = effects.Nothing;
}

-- by the open call of the number, if there is one
abbrev pub answering_to : State → EndpointParts → ℕ → ℕ → Option OpenCall → Ruling
answering_to s e call units None =
    let answered = answered_call e call units in
    admission_unless e.zone (destination_of e.kind e) answered (over_of s.commands s.calls answered)
answering_to s e call units (Some held) =
    if is_that e.id held.answerer then repeated_answer e call held.units
    else call_open_ruling e call

-- the endpoint is registered; an open call of the number was admitted to it; else the limits decide
abbrev pub answering_ruling : State → ℕ → ℕ → Option EndpointParts → Ruling
answering_ruling s call units None =
    unrouted (AdmitRefused call admit.CallerNotRegistered) effects.Nothing
answering_ruling s call units (Some e) = answering_to s e call units (call_of s.calls call)

-- ---- bandwidth changes
-- this bandwidth for the call, unless a sum of it would be above its limit
abbrev pub change_unless : List ℕ → ℕ → ℕ → Option Over → Ruling
change_unless id call units None =
    unrouted (Changed call units) (effects.Resize call id units)
change_unless id call units (Some over) =
    unrouted (ChangeRefused call (change.OverLimit over)) effects.Nothing

-- the call is open and the endpoint's own, and then the limits decide
abbrev pub change_ruling : State → List ℕ → ℕ → ℕ → Option OpenCall → Ruling
change_ruling s id call units None =
    unrouted (ChangeRefused call change.NoCall) effects.Nothing
change_ruling s id call units (Some held) =
    if has_owner id held
    then change_unless id call units (over_of s.commands s.calls (record held { units = units }))
    else unrouted (ChangeRefused call change.NotYours) effects.Nothing

-- ---- releases
-- an endpoint may not release a call that is not open, or another's; one that is not registered is
-- refused for that first
abbrev pub release_refused : State → List ℕ → ℕ → ReleaseRefusal → Ruling
release_refused s id call reason =
    if is_registered s.endpoints id then unrouted (ReleaseRefused call reason) effects.Nothing
    else unrouted (ReleaseRefused call release.NotRegistered) effects.Nothing

-- a call is released for its owner, registered or not
abbrev pub release_ruling : State → List ℕ → ℕ → Option OpenCall → Ruling
release_ruling s id call None = release_refused s id call release.NoCall
release_ruling s id call (Some held) =
    if has_owner id held then unrouted (Released call) (effects.Close call id)
    else release_refused s id call release.NotYours

-- ---- reloads
-- a configuration is always put in force, as the next version
abbrev pub reload_ruling : State → Ruling
reload_ruling s = unrouted (Reloaded (s.version + 1)) effects.PutInForce

-- ---- the ruling
unfoldable pub ruling_of : State → PlainEvent → Ruling
ruling_of s (Registering e) = registration_ruling s e
ruling_of s (Unregistering id) = unregistration_ruling s id
ruling_of s (Admitting id call digits units) =
    admission_ruling s call digits units (endpoint_of s.endpoints id)
ruling_of s (Answering id call units) =
    answering_ruling s call units (endpoint_of s.endpoints id)
ruling_of s (Changing id call units) = change_ruling s id call units (call_of s.calls call)
ruling_of s (Releasing id call) = release_ruling s id call (call_of s.calls call)
ruling_of s (Reloading commands) = reload_ruling s

abbrev pub verdict_of : State → PlainEvent → Reply
verdict_of s event = (ruling_of s event).verdict
