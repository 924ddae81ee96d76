-- What is ruled on an event agrees with it.
use Rattle.std.proofs.Common.{◌≡◌, ℕ, Bool, true, false, List, [], ◌∷◌, Option, Some, None, refl, sym, ap, subst, inl, inr}
use Rattle.std.specs.Prelude.{⊤, bytes_eq, IfSome, if◌then◌else◌}
use Rattle.std.specs.List.{find}
use Rattle.std.proofs.lemmas.Bool.{cases_Bool}
use Rattle.std.proofs.lemmas.Slice.Eq.{bytes_eq-Decides}
use Rattle.bandwidth.specs.Calls.{call_of, has_owner, is_open, owns}
use Rattle.bandwidth.specs.Fits.{over_of}
use Rattle.bandwidth.specs.declared.open_call.OpenCall.{OpenCall}
use Rattle.bandwidth.specs.declared.over.Over.{Over}
use Rattle.compiler.specs.Plan.{Target}
use Rattle.registry.specs.Endpoint.{EndpointParts}
use Rattle.registry.specs.Registration.{endpoint_of, has_id, is_registered}
use Rattle.rulings.specs.Events.{PlainEvent, Registering, Unregistering, Admitting, Answering, Changing, Releasing, Reloading}
use Rattle.rulings.specs.Lent.{ruling_meant}
use Rattle.rulings.specs.Routing.{destination_of, route_of, target_for}
use Rattle.rulings.specs.Ruling.{Ruling, admission_ruling, admission_to, admission_unless, admitted_call, answered_call, answering_ruling, answering_to, call_open_ruling, change_ruling, change_unless, is_that, register_refusal, registration_unless, release_refused, release_ruling, repeated_answer, ruling_of, unrouted}
use Rattle.rulings.specs.State.{State}
use Rattle.rulings.specs.Lacks.{no_memory_reply_of}
use Rattle.rulings.specs.Step.{places_needed}
use Rattle.rulings.specs.declared.lent_rulings.LentRuling.{LentRuling}
use Rattle.rulings.specs.declared.lent_rulings.LentRuling.TheVariants as ruling
use Rattle.rulings.specs.declared.replies.ChangeRefusal.TheVariants as change
use Rattle.rulings.specs.declared.replies.RegisterRefusal.{RegisterRefusal}
use Rattle.rulings.specs.declared.replies.ReleaseRefusal.{ReleaseRefusal}
use Rattle.rulings.specs.declared.replies.ReleaseRefusal.TheVariants as release
use Rattle.rulings.specs.declared.replies.Reply.{Reply}
use Rattle.rulings.specs.declared.replies.Reply.TheVariants as reply
use Rattle.rulings.specs.declared.replies.UnregisterRefusal.TheVariants as unregister
use Rattle.rulings.specs.declared.routes.Destination.{Destination}
use Rattle.rulings.specs.declared.routes.Route.{Route}
use Rattle.rulings.specs.declared.routes.Route.TheVariants as route
use Rattle.rulings.specs.declared.rulings.Effect.{Effect}
use Rattle.rulings.specs.declared.rulings.Effect.TheVariants as effects
use Rattle.entry_bytes.specs.Entry.{Agrees, asked_call, asked_id, asked_units}

-- the reply names what was asked
abbrev RepliesTo : PlainEvent → Reply → Type 0
RepliesTo event (reply.Registered id zone) = id ≡ asked_id event
RepliesTo event (reply.RegisterRefused id reason) = id ≡ asked_id event
RepliesTo event (reply.Unregistered id) = id ≡ asked_id event
RepliesTo event (reply.UnregisterRefused id reason) = id ≡ asked_id event
RepliesTo event (reply.Admitted call destination units) = call ≡ asked_call event
RepliesTo event (reply.AdmitRefused call reason) = call ≡ asked_call event
RepliesTo event (reply.Changed call units) =
    (call ≡ asked_call event) × (units ≡ asked_units event)
RepliesTo event (reply.ChangeRefused call reason) = call ≡ asked_call event
RepliesTo event (reply.Released call) =
    (call ≡ asked_call event) × (no_memory_reply_of event ≡ None)
RepliesTo event (reply.ReleaseRefused call reason) = call ≡ asked_call event
RepliesTo event (reply.Reloaded version) = ⊤
RepliesTo event (reply.ReloadRefused reason) = ⊤

-- a call that is opened has the bandwidth and the owner that were asked
abbrev Opens : PlainEvent → Effect → Type 0
Opens event effects.Nothing = ⊤
Opens event (effects.Put zone) = ⊤
Opens event (effects.Remove id) = ⊤
Opens event (effects.Open call) =
    (call.units ≡ asked_units event) × (call.owner ≡ asked_id event)
Opens event (effects.Resize call id units) = ⊤
Opens event (effects.Close call id) = ⊤
Opens event effects.PutInForce = ⊤

abbrev Fits : PlainEvent → Ruling → Type 0
Fits event r = RepliesTo event r.verdict × Opens event r.effect

fits_either : (event : PlainEvent) (b : Bool) (x y : Ruling) → Fits event x → Fits event y
    → Fits event (if b then x else y)
fits_either event true x y p q = p
fits_either event false x y p q = q

-- ---- by the kind of event
registering : (s : State) (e : EndpointParts) (o : Option RegisterRefusal)
    → Fits (Registering e) (registration_unless s e o)
registering s e (Some refusal) = (refl, tt)
registering s e None = (refl, tt)

admission_fits : (event : PlainEvent) (zone : List ℕ) (d : Destination) (call : OpenCall)
    (o : Option Over) → call.number ≡ asked_call event → call.units ≡ asked_units event
    → call.owner ≡ asked_id event → Fits event (admission_unless zone d call o)
admission_fits event zone d call None number units owner = (number, (units, owner))
admission_fits event zone d call (Some over) number units owner = (number, tt)

routed : (s : State) (e : EndpointParts) (id digits : List ℕ) (call units : ℕ) (t : Target)
    (r : Route) → e.id ≡ id
    → Fits (Admitting id call digits units) (admission_to s e call units t r)
routed s e id digits call units t (route.Refused refusal) is = (refl, tt)
routed s e id digits call units t (route.To d) is =
    let admitted = admitted_call e call units t d in
    admission_fits (Admitting id call digits units) e.zone d admitted
    (over_of s.commands s.calls admitted) refl refl is

admitting : (s : State) (id digits : List ℕ) (call units : ℕ) (o : Option EndpointParts)
    → IfSome o (λ e. e.id ≡ id)
    → Fits (Admitting id call digits units) (admission_ruling s call digits units o)
admitting s id digits call units None is = (refl, tt)
admitting s id digits call units (Some e) is =
    fits_either (Admitting id call digits units) (is_open s.calls call) (call_open_ruling e call)
    (admission_to s e call units (target_for s.commands s.endpoints digits)
    (route_of s.commands s.endpoints e.zone digits))
    (refl, tt)
    (routed s e id digits call units (target_for s.commands s.endpoints digits)
    (route_of s.commands s.endpoints e.zone digits) is)

answering_held : (s : State) (e : EndpointParts) (id : List ℕ) (call units : ℕ)
    (o : Option OpenCall) → e.id ≡ id
    → Fits (Answering id call units) (answering_to s e call units o)
answering_held s e id call units None is =
    let answered = answered_call e call units in
    admission_fits (Answering id call units) e.zone (destination_of e.kind e) answered
    (over_of s.commands s.calls answered) refl refl is
answering_held s e id call units (Some held) is =
    fits_either (Answering id call units) (is_that e.id held.answerer)
    (repeated_answer e call held.units) (call_open_ruling e call) (refl, tt) (refl, tt)

answering : (s : State) (id : List ℕ) (call units : ℕ) (o : Option EndpointParts)
    → IfSome o (λ e. e.id ≡ id)
    → Fits (Answering id call units) (answering_ruling s call units o)
answering s id call units None is = (refl, tt)
answering s id call units (Some e) is =
    answering_held s e id call units (call_of s.calls call) is

changed : (id : List ℕ) (call units : ℕ) (o : Option Over)
    → Fits (Changing id call units) (change_unless id call units o)
changed id call units None = ((refl, refl), tt)
changed id call units (Some over) = (refl, tt)

changing : (s : State) (id : List ℕ) (call units : ℕ) (o : Option OpenCall)
    → Fits (Changing id call units) (change_ruling s id call units o)
changing s id call units None = (refl, tt)
changing s id call units (Some held) =
    let o = over_of s.commands s.calls (record held { units = units }) in
    fits_either (Changing id call units) (has_owner id held) (change_unless id call units o)
    (unrouted (reply.ChangeRefused call change.NotYours) effects.Nothing)
    (changed id call units o) (refl, tt)

kept : (s : State) (id : List ℕ) (call : ℕ) (reason : ReleaseRefusal)
    → Fits (Releasing id call) (release_refused s id call reason)
kept s id call reason =
    fits_either (Releasing id call) (is_registered s.endpoints id)
    (unrouted (reply.ReleaseRefused call reason) effects.Nothing)
    (unrouted (reply.ReleaseRefused call release.NotRegistered) effects.Nothing) (refl, tt)
    (refl, tt)

releasing : (s : State) (id : List ℕ) (call : ℕ) (o : Option OpenCall)
    → Fits (Releasing id call) (release_ruling s id call o)
releasing s id call None = kept s id call release.NoCall
releasing s id call (Some held) =
    fits_either (Releasing id call) (has_owner id held)
    (unrouted (reply.Released call) (effects.Close call id))
    (release_refused s id call release.NotYours) ((refl, refl), tt) (kept s id call release.NotYours)

-- an endpoint that is found by its ID has that ID
found : (id : List ℕ) (endpoints : List EndpointParts)
    → IfSome (endpoint_of endpoints id) (λ e. e.id ≡ id)
found id [] = tt
found id (e ∷ endpoints) =
    elim (cases_Bool (bytes_eq e.id id)) [
      | inl same ↦
          subst (λ (o : Option EndpointParts). IfSome o (λ f. f.id ≡ id))
          (ap (λ (b : Bool). if b then Some e else find (has_id id) endpoints) (sym same))
          ((bytes_eq-Decides e.id id).0 same)
      | inr other ↦
          subst (λ (o : Option EndpointParts). IfSome o (λ f. f.id ≡ id))
          (ap (λ (b : Bool). if b then Some e else find (has_id id) endpoints) (sym other))
          (found id endpoints)
    ]

-- ---- what is ruled of any event
fits : (s : State) (event : PlainEvent) → Fits event (ruling_of s event)
unfolding ruling_of
fits s (Registering e) = registering s e (register_refusal s e)
fits s (Unregistering id) =
    fits_either (Unregistering id) (is_registered s.endpoints id)
    (if owns s.calls id
    then unrouted (reply.UnregisterRefused id unregister.CallInProgress) effects.Nothing
    else unrouted (reply.Unregistered id) (effects.Remove id))
    (unrouted (reply.UnregisterRefused id unregister.NotRegistered) effects.Nothing)
    (fits_either (Unregistering id) (owns s.calls id)
    (unrouted (reply.UnregisterRefused id unregister.CallInProgress) effects.Nothing)
    (unrouted (reply.Unregistered id) (effects.Remove id)) (refl, tt) (refl, tt)) (refl, tt)
fits s (Admitting id call digits units) =
    admitting s id digits call units (endpoint_of s.endpoints id) (found id s.endpoints)
fits s (Answering id call units) =
    answering s id call units (endpoint_of s.endpoints id) (found id s.endpoints)
fits s (Changing id call units) = changing s id call units (call_of s.calls call)
fits s (Releasing id call) = releasing s id call (call_of s.calls call)
fits s (Reloading commands) = (tt, tt)

agrees : (event : PlainEvent) (r : LentRuling) → Fits event (ruling_meant r) → Agrees event r
agrees event (ruling.Registered id zone) f = f.0
agrees event (ruling.RegisterRefused id reason) f = f.0
agrees event (ruling.Unregistered id) f = f.0
agrees event (ruling.UnregisterRefused id reason) f = f.0
agrees event (ruling.Admitted call owner source target remote units kind name address) f =
    (f.0, f.1.0)
agrees event (ruling.Answering call owner zone units kind address) f = (f.0, f.1.0, f.1.1)
agrees event (ruling.Repeated call zone units kind name address) f = f.0
agrees event (ruling.CallerNotRegistered call) f = f.0
agrees event (ruling.CallOpen call source) f = f.0
agrees event (ruling.NoRoute call source refusal) f = f.0
agrees event (ruling.OverLimit call source kind name address over) f = f.0
agrees event (ruling.Changed call id units) f = f.0
agrees event (ruling.ChangeRefused call reason) f = f.0
agrees event (ruling.Released call id) f = f.0
agrees event (ruling.ReleaseRefused call reason) f = f.0
agrees event (ruling.Reloaded version) f = tt

pub ruling_agrees : (s : State) (event : PlainEvent) (r : LentRuling)
    → ruling_meant r ≡ ruling_of s event → Agrees event r
ruling_agrees s event r is = agrees event r (subst (Fits event) (sym is) (fits s event))

-- only what is granted to a release needs no place
pub needs_no_place : (event : PlainEvent) (r : LentRuling) → Agrees event r
    → places_needed (ruling_meant r).effect ≡ 0 → no_memory_reply_of event ≡ None
needs_no_place event (ruling.Registered id zone) is none =
    let impossible : ⊥ = cc in absurd impossible
needs_no_place event (ruling.RegisterRefused id reason) is none =
    let impossible : ⊥ = cc in absurd impossible
needs_no_place event (ruling.Unregistered id) is none =
    let impossible : ⊥ = cc in absurd impossible
needs_no_place event (ruling.UnregisterRefused id reason) is none =
    let impossible : ⊥ = cc in absurd impossible
needs_no_place event (ruling.Admitted call owner source target remote units kind name address) is none =
    let impossible : ⊥ = cc in absurd impossible
needs_no_place event (ruling.Answering call owner zone units kind address) is none =
    let impossible : ⊥ = cc in absurd impossible
needs_no_place event (ruling.Repeated call zone units kind name address) is none =
    let impossible : ⊥ = cc in absurd impossible
needs_no_place event (ruling.CallerNotRegistered call) is none =
    let impossible : ⊥ = cc in absurd impossible
needs_no_place event (ruling.CallOpen call source) is none =
    let impossible : ⊥ = cc in absurd impossible
needs_no_place event (ruling.NoRoute call source refusal) is none =
    let impossible : ⊥ = cc in absurd impossible
needs_no_place event (ruling.OverLimit call source kind name address over) is none =
    let impossible : ⊥ = cc in absurd impossible
needs_no_place event (ruling.Changed call id units) is none =
    let impossible : ⊥ = cc in absurd impossible
needs_no_place event (ruling.ChangeRefused call reason) is none =
    let impossible : ⊥ = cc in absurd impossible
needs_no_place event (ruling.Released call id) is none = is.1
needs_no_place event (ruling.ReleaseRefused call reason) is none =
    let impossible : ⊥ = cc in absurd impossible
needs_no_place event (ruling.Reloaded version) is none =
    let impossible : ⊥ = cc in absurd impossible
