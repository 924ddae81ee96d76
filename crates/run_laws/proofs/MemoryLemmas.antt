-- The machine's own replies do not say that memory ran out.
use Rattle.std.proofs.Common.{◌≡◌, ℕ, Bool, true, false, cond, List, ap}
use Rattle.std.specs.Prelude.{◌≢◌, Option, Some, None}
use Rattle.compiler.specs.Plan.{Target}
use Rattle.registry.specs.Endpoint.{EndpointParts}
use Rattle.registry.specs.Registration.{endpoint_of}
use Rattle.registry.specs.declared.faults.Duplicate.TheVariants.{Id, E164}
use Rattle.bandwidth.specs.declared.open_call.OpenCall.{OpenCall}
use Rattle.bandwidth.specs.declared.over.Over.{Over}
use Rattle.bandwidth.specs.Calls.{call_of}
use Rattle.bandwidth.specs.Fits.{over_of}
use Rattle.rulings.specs.declared.routes.Destination.{Destination}
use Rattle.rulings.specs.declared.routes.Route.{Route}
use Rattle.rulings.specs.declared.routes.Route.TheVariants.{To, Refused}
use Rattle.rulings.specs.declared.replies.RegisterRefusal.{RegisterRefusal}
use Rattle.rulings.specs.declared.replies.RegisterRefusal.TheVariants as register
use Rattle.rulings.specs.declared.replies.UnregisterRefusal.TheVariants as unregister
use Rattle.rulings.specs.declared.replies.AdmitRefusal.TheVariants as admit
use Rattle.rulings.specs.declared.replies.ChangeRefusal.TheVariants as change
use Rattle.rulings.specs.declared.replies.ReloadRefusal.TheVariants as reload
use Rattle.rulings.specs.declared.replies.Reply.{Reply}
use Rattle.rulings.specs.declared.replies.Reply.TheVariants.{RegisterRefused, Unregistered, UnregisterRefused, AdmitRefused, ChangeRefused, ReloadRefused}
use Rattle.rulings.specs.declared.rulings.Effect.TheVariants.{Nothing, Remove}
use Rattle.rulings.specs.State.{State}
use Rattle.rulings.specs.Events.{PlainEvent, Registering, Unregistering, Admitting, Answering, Changing, Releasing, Reloading}
use Rattle.rulings.specs.Routing.{destination_of, target_for, route_of}
use Rattle.rulings.specs.Ruling.{Ruling, register_refusal, registration_unless, admitted_call, admission_unless, admission_to, admission_ruling, answered_call, answering_ruling, answering_to, call_open_ruling, repeated_answer, change_unless, change_ruling, unrouted, ruling_of}
use Rattle.std.specs.Option.{option_and_then}
use Rattle.rulings.specs.declared.lacks.Lack.TheVariants.{Limit, Record}
use Rattle.rulings.specs.Lacks.{reply_without, no_memory_reply_of}
use Rattle.rulings.specs.Step.{count_refusal, lacks_places, lack_if, outcome_of, step}

-- what holds of both
either : {X : Type 0} (P : X → Type 0) (t : Bool) (x y : X) → P x → P y → P (cond t x y)
either P true x y p q = p
either P false x y p q = q

-- ---- rulings
register_apart : (s : State) (e : EndpointParts) (refusal : Option RegisterRefusal) → Some
    register.NoMemory ≢ refusal
    → RegisterRefused e.id register.NoMemory ≢ (registration_unless s e refusal).verdict
register_apart s e (Some refusal) other h = let same : register.NoMemory ≡ refusal = cc in other
    (ap Some same)
register_apart s e None other h = cc

register_refusal_apart : (s : State) (e : EndpointParts) → Some register.NoMemory ≢ register_refusal
    s e
register_refusal_apart s e =
    let P : Option RegisterRefusal → Type 0 = λ refusal. Some register.NoMemory ≢ refusal in
    let id : P (Some (register.DuplicateAlias Id)) = λ h. cc in
    let alias : P (Some (register.DuplicateAlias E164)) = λ h. cc in
    let none : P None = λ h. cc in
    let zone : P (Some register.UnknownZone) = λ h. cc in
    either P _ _ _ (either P _ _ _ id (either P _ _ _ alias none)) zone

unless_apart : (zone : List ℕ) (destination : Destination) (call : OpenCall) (over : Option Over)
    → AdmitRefused call.number admit.NoMemory ≢ (admission_unless zone destination call
    over).verdict
unless_apart zone destination call None h = cc
unless_apart zone destination call (Some over) h = cc

to_apart : (s : State) (caller : EndpointParts) (call units : ℕ) (target : Target) (route : Route)
    → AdmitRefused call admit.NoMemory ≢ (admission_to s caller call units target route).verdict
to_apart s caller call units target (Refused refusal) h = cc
to_apart s caller call units target (To destination) h =
    let admitted : OpenCall = admitted_call caller call units target destination in
    unless_apart caller.zone destination admitted (over_of s.commands s.calls admitted) h

admit_apart : (s : State) (call : ℕ) (digits : List ℕ) (units : ℕ) (caller : Option EndpointParts)
    → AdmitRefused call admit.NoMemory ≢ (admission_ruling s call digits units caller).verdict
admit_apart s call digits units None h = cc
admit_apart s call digits units (Some caller) h =
    let P : Ruling → Type 0 = λ r. AdmitRefused call admit.NoMemory ≢ r.verdict in
    let taken : P (call_open_ruling caller call) = λ i. cc in
    either P _ _ _ taken
    (to_apart s caller call units (target_for s.commands s.endpoints digits)
    (route_of s.commands s.endpoints caller.zone digits)) h

answer_to_apart : (s : State) (e : EndpointParts) (call units : ℕ) (held : Option OpenCall)
    → AdmitRefused call admit.NoMemory ≢ (answering_to s e call units held).verdict
answer_to_apart s e call units None h =
    let answered : OpenCall = answered_call e call units in
    unless_apart e.zone (destination_of e.kind e) answered (over_of s.commands s.calls answered) h
answer_to_apart s e call units (Some held) h =
    let P : Ruling → Type 0 = λ r. AdmitRefused call admit.NoMemory ≢ r.verdict in
    let repeated : P (repeated_answer e call held.units) = λ i. cc in
    let taken : P (call_open_ruling e call) = λ i. cc in either P _ _ _ repeated taken h

answer_apart : (s : State) (call units : ℕ) (e : Option EndpointParts)
    → AdmitRefused call admit.NoMemory ≢ (answering_ruling s call units e).verdict
answer_apart s call units None h = cc
answer_apart s call units (Some e) h = answer_to_apart s e call units (call_of s.calls call) h

change_unless_apart : (id : List ℕ) (call units : ℕ) (over : Option Over) → ChangeRefused call
    change.NoMemory ≢ (change_unless id call units over).verdict
change_unless_apart id call units None h = cc
change_unless_apart id call units (Some over) h = cc

change_apart : (s : State) (id : List ℕ) (call units : ℕ) (held : Option OpenCall) → ChangeRefused
    call change.NoMemory ≢ (change_ruling s id call units held).verdict
change_apart s id call units None h = cc
change_apart s id call units (Some held) h =
    let P : Ruling → Type 0 = λ r. ChangeRefused call change.NoMemory ≢ r.verdict in
    let other : P (unrouted (ChangeRefused call change.NotYours) Nothing) = λ i. cc in
    either P _ _ _ (change_unless_apart id call units (over_of s.commands s.calls
    (record held { units = units }))) other h

-- ---- steps
-- a step's reply is a refusal by a count, or the verdict
outcome_apart : (s : State) (event : PlainEvent) (ruling : Ruling) (no_memory : Reply)
    (refusal : Option Reply) → Some no_memory ≢ refusal → no_memory ≢ ruling.verdict
    → no_memory ≢ (outcome_of s event ruling refusal).reply
outcome_apart s event ruling no_memory (Some reply) counts ruled = λ h. counts (ap Some h)
outcome_apart s event ruling no_memory None counts ruled = ruled

step_apart : (s : State) (event : PlainEvent) (no_memory : Reply) → Some no_memory ≢ count_refusal s
    event (ruling_of s event) → no_memory ≢ (ruling_of s event).verdict
    → Some no_memory ≢ Some (step s event).reply
unfolding step
step_apart s event no_memory counts ruled h =
    let same : no_memory ≡ (step s event).reply = cc in
    outcome_apart s event (ruling_of s event) no_memory (count_refusal s event (ruling_of s event))
    counts ruled same

-- a reply that is neither refusal by a count is not the one that comes
counts_apart : (event : PlainEvent) (refusal : Reply) (at_limit short : Bool)
    → Some refusal ≢ reply_without event Limit → Some refusal ≢ reply_without event Record
    → Some refusal ≢ option_and_then (reply_without event) (lack_if at_limit short)
counts_apart event refusal true short limit places h = limit h
counts_apart event refusal false true limit places h = places h
counts_apart event refusal false false limit places h = cc

pub lasts : (s : State) (event : PlainEvent) → no_memory_reply_of event ≢ Some (step s event).reply
unfolding count_refusal ruling_of
lasts s (Registering e) =
    let P : Option Reply → Type 0 = λ refusal. Some (RegisterRefused e.id register.NoMemory) ≢
    refusal in
    let endpoints : P (Some (RegisterRefused e.id register.EndpointsFull)) = λ h. cc in
    let records : P (Some (RegisterRefused e.id register.RecordFull)) = λ h. cc in
    step_apart s (Registering e) (RegisterRefused e.id register.NoMemory)
    (counts_apart (Registering e) _ _ _ endpoints records)
    (register_apart s e (register_refusal s e) (register_refusal_apart s e))
lasts s (Unregistering id) =
    let P : Option Reply → Type 0 = λ refusal. Some (UnregisterRefused id unregister.NoMemory) ≢
    refusal in
    let Q : Ruling → Type 0 = λ r. UnregisterRefused id unregister.NoMemory ≢ r.verdict in
    let records : P (Some (UnregisterRefused id unregister.RecordFull)) = λ h. cc in
    let none : P None = λ h. cc in
    let calls : Q (unrouted (UnregisterRefused id unregister.CallInProgress) Nothing) = λ h. cc in
    let left : Q (unrouted (Unregistered id) (Remove id)) = λ h. cc in
    let unknown : Q (unrouted (UnregisterRefused id unregister.NotRegistered) Nothing) = λ h. cc in
    step_apart s (Unregistering id) (UnregisterRefused id unregister.NoMemory)
    (counts_apart (Unregistering id) _ false
    (lacks_places s (ruling_of s (Unregistering id)).effect) none records)
    (either Q _ _ _ (either Q _ _ _ calls left) unknown)
lasts s (Admitting id call digits units) =
    let P : Option Reply → Type 0 = λ refusal. Some (AdmitRefused call admit.NoMemory) ≢ refusal in
    let calls : P (Some (AdmitRefused call admit.CallsFull)) = λ h. cc in
    let records : P (Some (AdmitRefused call admit.RecordFull)) = λ h. cc in
    step_apart s (Admitting id call digits units) (AdmitRefused call admit.NoMemory)
    (counts_apart (Admitting id call digits units) _ _ _ calls records)
    (admit_apart s call digits units (endpoint_of s.endpoints id))
lasts s (Answering id call units) =
    let P : Option Reply → Type 0 = λ refusal. Some (AdmitRefused call admit.NoMemory) ≢ refusal in
    let calls : P (Some (AdmitRefused call admit.CallsFull)) = λ h. cc in
    let records : P (Some (AdmitRefused call admit.RecordFull)) = λ h. cc in
    step_apart s (Answering id call units) (AdmitRefused call admit.NoMemory)
    (counts_apart (Answering id call units) _ _ _ calls records)
    (answer_apart s call units (endpoint_of s.endpoints id))
lasts s (Changing id call units) =
    let P : Option Reply → Type 0 = λ refusal. Some (ChangeRefused call change.NoMemory) ≢ refusal
    in
    let records : P (Some (ChangeRefused call change.RecordFull)) = λ h. cc in
    let none : P None = λ h. cc in
    step_apart s (Changing id call units) (ChangeRefused call change.NoMemory)
    (counts_apart (Changing id call units) _ false
    (lacks_places s (ruling_of s (Changing id call units)).effect) none records)
    (change_apart s id call units (call_of s.calls call))
lasts s (Releasing id call) = λ h. cc
lasts s (Reloading commands) =
    let P : Option Reply → Type 0 = λ refusal. Some (ReloadRefused reload.NoMemory) ≢ refusal in
    let spent : P (Some (ReloadRefused reload.ReloadsSpent)) = λ h. cc in
    let records : P (Some (ReloadRefused reload.RecordFull)) = λ h. cc in
    step_apart s (Reloading commands) (ReloadRefused reload.NoMemory)
    (counts_apart (Reloading commands) _ _ _ spent records) (λ h. cc)
