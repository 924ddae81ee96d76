-- An entry of the record by its values, and what it tells beside its event.
use Rattle.std.specs.Prelude.{◌≡◌, ℕ, Bool, true, false, List, [], Option, Some, None, ⊤}
use Rattle.rulings.specs.Events.{PlainEvent, Registering, Unregistering, Admitting, Answering, Changing, Releasing, Reloading}
use Rattle.rulings.specs.Lent.{destination_meant}
use Rattle.rulings.specs.Ruling.{Ruling}
use Rattle.rulings.specs.Lacks.{no_memory_reply_of}
use Rattle.rulings.specs.Step.{opens_call}
use Rattle.rulings.specs.declared.lent_rulings.LentRuling.{LentRuling}
use Rattle.rulings.specs.declared.lent_rulings.LentRuling.TheVariants as ruling
use Rattle.rulings.specs.declared.replies.AdmitRefusal.{AdmitRefusal}
use Rattle.rulings.specs.declared.replies.AdmitRefusal.TheVariants as admit
use Rattle.rulings.specs.declared.replies.Reply.{Reply}
use Rattle.rulings.specs.declared.replies.Reply.TheVariants as reply
use Rattle.rulings.specs.declared.routes.Destination.{Destination}
use Rattle.rulings.specs.declared.routes.Route.{Route}
use Rattle.rulings.specs.declared.routes.Route.TheVariants as route
use Rattle.entry_bytes.specs.declared.verdicts.Verdict.{Verdict}
use Rattle.entry_bytes.specs.declared.verdicts.Verdict.TheVariants as verdict

-- an entry of the record by its values alone
pub record PlainEntry : Type 0 where
  pub event : PlainEvent
  pub reply : Reply
  pub zone : Option (List ℕ)
  pub route : Option Route
  -- whether it opened a call
  pub opened : Bool

-- what is recorded of an event on which this was ruled
abbrev pub entry_by : PlainEvent → Ruling → PlainEntry
entry_by event ruling = record {
  event = event;
  reply = ruling.verdict;
  zone = ruling.zone;
  route = ruling.route;
  opened = opens_call ruling.effect;
}

-- ---- what an event asks; 0 or nothing if it does not ask that
abbrev pub asked_id : PlainEvent → List ℕ
asked_id (Registering endpoint) = endpoint.id
asked_id (Unregistering id) = id
asked_id (Admitting id call digits units) = id
asked_id (Answering id call units) = id
asked_id (Changing id call units) = id
asked_id (Releasing id call) = id
asked_id (Reloading commands) = []

abbrev pub asked_call : PlainEvent → ℕ
asked_call (Registering endpoint) = 0
asked_call (Unregistering id) = 0
asked_call (Admitting id call digits units) = call
asked_call (Answering id call units) = call
asked_call (Changing id call units) = call
asked_call (Releasing id call) = call
asked_call (Reloading commands) = 0

abbrev pub asked_units : PlainEvent → ℕ
asked_units (Registering endpoint) = 0
asked_units (Unregistering id) = 0
asked_units (Admitting id call digits units) = units
asked_units (Answering id call units) = units
asked_units (Changing id call units) = units
asked_units (Releasing id call) = 0
asked_units (Reloading commands) = 0

-- ---- the entry of an event with this verdict
-- one that was not routed
abbrev pub unrouted_entry : PlainEvent → Reply → PlainEntry
unrouted_entry event replied =
    record { event = event; reply = replied; zone = None; route = None; opened = false }

-- one that leads to this destination, from this zone
abbrev pub led_entry : PlainEvent → Reply → (zone : List ℕ) → Destination → Bool → PlainEntry
led_entry event replied zone destination opened = record {
  event = event;
  reply = replied;
  zone = Some zone;
  route = Some (route.To destination);
  opened = opened;
}

-- a refused admission or answer, from this zone
abbrev pub refused_entry : PlainEvent → AdmitRefusal → List ℕ → Option Route → PlainEntry
refused_entry event refusal zone led = record {
  event = event;
  reply = reply.AdmitRefused (asked_call event) refusal;
  zone = Some zone;
  route = led;
  opened = false;
}

abbrev pub granted_reply : PlainEvent → Destination → Reply
granted_reply event destination =
    reply.Admitted (asked_call event) destination (asked_units event)

abbrev pub entry_told : PlainEvent → Verdict → PlainEntry
entry_told event (verdict.Registered zone) =
    unrouted_entry event (reply.Registered (asked_id event) zone)
entry_told event (verdict.RegisterRefused reason) =
    unrouted_entry event (reply.RegisterRefused (asked_id event) reason)
entry_told event verdict.Unregistered =
    unrouted_entry event (reply.Unregistered (asked_id event))
entry_told event (verdict.UnregisterRefused reason) =
    unrouted_entry event (reply.UnregisterRefused (asked_id event) reason)
entry_told event (verdict.Admitted zone kind name address) =
    led_entry event (granted_reply event (destination_meant kind name address)) zone
    (destination_meant kind name address) true
entry_told event (verdict.Answering zone kind address) =
    led_entry event (granted_reply event (destination_meant kind (asked_id event) address)) zone
    (destination_meant kind (asked_id event) address) true
entry_told event (verdict.Repeated zone units kind name address) =
    led_entry event (reply.Admitted (asked_call event) (destination_meant kind name address) units)
    zone (destination_meant kind name address) false
entry_told event verdict.CallerNotRegistered =
    unrouted_entry event (reply.AdmitRefused (asked_call event) admit.CallerNotRegistered)
entry_told event (verdict.CallOpen zone) = refused_entry event admit.CallOpen zone None
entry_told event (verdict.NoRoute zone refusal) =
    refused_entry event (admit.NoRoute refusal) zone (Some (route.Refused refusal))
entry_told event (verdict.OverLimit zone kind name address over) =
    refused_entry event (admit.OverLimit over) zone
    (Some (route.To (destination_meant kind name address)))
entry_told event verdict.Changed =
    unrouted_entry event (reply.Changed (asked_call event) (asked_units event))
entry_told event (verdict.ChangeRefused reason) =
    unrouted_entry event (reply.ChangeRefused (asked_call event) reason)
entry_told event verdict.Released = unrouted_entry event (reply.Released (asked_call event))
entry_told event (verdict.ReleaseRefused reason) =
    unrouted_entry event (reply.ReleaseRefused (asked_call event) reason)
entry_told event (verdict.Reloaded version) = unrouted_entry event (reply.Reloaded version)

-- ---- the verdict of a ruling
abbrev pub verdict_meant : LentRuling → Verdict
verdict_meant (ruling.Registered id zone) = verdict.Registered zone
verdict_meant (ruling.RegisterRefused id reason) = verdict.RegisterRefused reason
verdict_meant (ruling.Unregistered id) = verdict.Unregistered
verdict_meant (ruling.UnregisterRefused id reason) = verdict.UnregisterRefused reason
verdict_meant (ruling.Admitted call owner source target remote units kind name address) =
    verdict.Admitted source.now kind name.now address
verdict_meant (ruling.Answering call owner zone units kind address) =
    verdict.Answering zone.now kind address
verdict_meant (ruling.Repeated call zone units kind name address) =
    verdict.Repeated zone.now units kind name.now address
verdict_meant (ruling.CallerNotRegistered call) = verdict.CallerNotRegistered
verdict_meant (ruling.CallOpen call source) = verdict.CallOpen source.now
verdict_meant (ruling.NoRoute call source refusal) = verdict.NoRoute source.now refusal
verdict_meant (ruling.OverLimit call source kind name address over) =
    verdict.OverLimit source.now kind name.now address over
verdict_meant (ruling.Changed call id units) = verdict.Changed
verdict_meant (ruling.ChangeRefused call reason) = verdict.ChangeRefused reason
verdict_meant (ruling.Released call id) = verdict.Released
verdict_meant (ruling.ReleaseRefused call reason) = verdict.ReleaseRefused reason
verdict_meant (ruling.Reloaded version) = verdict.Reloaded version

-- the ruling names the call, the bandwidth and the ID that the event asks with, where it replies
-- with them; and a release alone, which never lacks memory, is granted as one
abbrev pub Agrees : PlainEvent → LentRuling → Type 0
Agrees event (ruling.Registered id zone) = id.now ≡ asked_id event
Agrees event (ruling.RegisterRefused id reason) = id.now ≡ asked_id event
Agrees event (ruling.Unregistered id) = id.now ≡ asked_id event
Agrees event (ruling.UnregisterRefused id reason) = id.now ≡ asked_id event
Agrees event (ruling.Admitted call owner source target remote units kind name address) =
    (call ≡ asked_call event) × (units ≡ asked_units event)
Agrees event (ruling.Answering call owner zone units kind address) =
    (call ≡ asked_call event) × (units ≡ asked_units event) × (owner.now ≡ asked_id event)
Agrees event (ruling.Repeated call zone units kind name address) = call ≡ asked_call event
Agrees event (ruling.CallerNotRegistered call) = call ≡ asked_call event
Agrees event (ruling.CallOpen call source) = call ≡ asked_call event
Agrees event (ruling.NoRoute call source refusal) = call ≡ asked_call event
Agrees event (ruling.OverLimit call source kind name address over) = call ≡ asked_call event
Agrees event (ruling.Changed call id units) =
    (call ≡ asked_call event) × (units ≡ asked_units event)
Agrees event (ruling.ChangeRefused call reason) = call ≡ asked_call event
Agrees event (ruling.Released call id) =
    (call ≡ asked_call event) × (no_memory_reply_of event ≡ None)
Agrees event (ruling.ReleaseRefused call reason) = call ≡ asked_call event
Agrees event (ruling.Reloaded version) = ⊤
