-- An entry reads back.
use Rattle.std.proofs.Common.{◌≡◌, ℕ, ◌<◌, ◌^◌, true, false, List, [], ◌++◌, Option, Some, None, refl, sym, ap, ◌∙◌}
use Rattle.std.proofs.lemmas.List.{append-nil}
use Rattle.gk_terms.specs.Name.{IsName}
use Rattle.registry.specs.Endpoint.{EndpointParts}
use Rattle.rulings.specs.Events.{PlainEvent, Registering, Unregistering, Admitting, Answering, Changing, Releasing, Reloading}
use Rattle.rulings.specs.Lent.{destination_meant, ruling_meant}
use Rattle.rulings.specs.declared.lent_rulings.LentRuling.{LentRuling}
use Rattle.rulings.specs.declared.lent_rulings.LentRuling.TheVariants as ruling
use Rattle.rulings.specs.declared.replies.AdmitRefusal.{AdmitRefusal}
use Rattle.rulings.specs.declared.replies.AdmitRefusal.TheVariants as admit
use Rattle.rulings.specs.declared.replies.Reply.TheVariants as reply
use Rattle.rulings.specs.declared.routes.Route.{Route}
use Rattle.rulings.specs.declared.routes.Route.TheVariants as route
use Rattle.field_bytes.specs.Fields.{◌>>=◌, dialled_in, name_in, number_bytes, number_in, text_bytes}
use Rattle.field_bytes.proofs.FieldLaws.{dialled_back, name_back, number_back}
use Rattle.entry_bytes.specs.Entry.{Agrees, PlainEntry, asked_id, asked_units, entry_by, entry_told, led_entry, unrouted_entry, verdict_meant}
use Rattle.entry_bytes.specs.EntryBytes.{entry_bytes, entry_in}
use Rattle.entry_bytes.specs.EventBytes.{IsEvent, event_at, event_bytes, event_in}
use Rattle.entry_bytes.specs.VerdictBytes.{IsVerdict}
use Rattle.entry_bytes.specs.declared.verdicts.Verdict.{Verdict}
use Rattle.entry_bytes.proofs.PartLaws.{endpoint_bytes_back}
use Rattle.entry_bytes.proofs.VerdictLaws.{verdict_back}

-- ---- events
-- a name that is the last field
last_name : (next : List ℕ → PlainEvent) (name : List ℕ) → IsName name
    → (name_in (text_bytes name) >>= λ n. Some (next n.0)) ≡ Some (next name)
last_name next name is =
    ap (λ (bytes : List ℕ). name_in bytes >>= λ n. Some (next n.0))
    (sym (append-nil (text_bytes name)))
    ∙ ap (λ (read : Option (List ℕ × List ℕ)). read >>= λ n. Some (next n.0))
    (name_back name is [])

-- a number, and what is read after it
number_then : (next : ℕ → List ℕ → Option PlainEvent) (n : ℕ) (rest : List ℕ) → n < 2 ^ 32
    → (number_in (number_bytes n ++ rest) >>= λ read. next read.0 read.1) ≡ next n rest
number_then next n rest small =
    ap (λ (read : Option (ℕ × List ℕ)). read >>= λ r. next r.0 r.1) (number_back n small rest)

pub event_back : (event : PlainEvent) → IsEvent event → event_in (event_bytes event) ≡ Some event
unfolding event_in event_at
event_back (Registering e) is =
    ap (λ (read : Option EndpointParts). read >>= λ v. Some (Registering v))
    (endpoint_bytes_back e is)
event_back (Unregistering id) is = last_name Unregistering id is
event_back (Admitting id call digits units) is =
    let ending = text_bytes id ++ text_bytes digits in
    number_then
    (λ c bytes. number_in bytes >>= λ u. name_in u.1 >>= λ i. dialled_in i.1 >>= λ d.
    Some (Admitting i.0 c d.0 u.0)) call (number_bytes units ++ ending) is.1
    ∙ number_then
    (λ u bytes. name_in bytes >>= λ i. dialled_in i.1 >>= λ d. Some (Admitting i.0 call d.0 u))
    units ending is.3
    ∙ ap
    (λ (read : Option (List ℕ × List ℕ)). read >>= λ i. dialled_in i.1 >>= λ d.
    Some (Admitting i.0 call d.0 units)) (name_back id is.0 (text_bytes digits))
    ∙ ap (λ (bytes : List ℕ). dialled_in bytes >>= λ d. Some (Admitting id call d.0 units))
    (sym (append-nil (text_bytes digits)))
    ∙ ap
    (λ (read : Option (List ℕ × List ℕ)). read >>= λ d. Some (Admitting id call d.0 units))
    (dialled_back digits is.2 [])
event_back (Answering id call units) is =
    number_then
    (λ c bytes. number_in bytes >>= λ u. name_in u.1 >>= λ i. Some (Answering i.0 c u.0)) call
    (number_bytes units ++ text_bytes id) is.1
    ∙ number_then (λ u bytes. name_in bytes >>= λ i. Some (Answering i.0 call u)) units
    (text_bytes id) is.2
    ∙ last_name (λ i. Answering i call units) id is.0
event_back (Changing id call units) is =
    number_then
    (λ c bytes. number_in bytes >>= λ u. name_in u.1 >>= λ i. Some (Changing i.0 c u.0)) call
    (number_bytes units ++ text_bytes id) is.1
    ∙ number_then (λ u bytes. name_in bytes >>= λ i. Some (Changing i.0 call u)) units
    (text_bytes id) is.2
    ∙ last_name (λ i. Changing i call units) id is.0
event_back (Releasing id call) is =
    number_then (λ c bytes. name_in bytes >>= λ i. Some (Releasing i.0 c)) call (text_bytes id) is.1
    ∙ last_name (λ i. Releasing i call) id is.0
event_back (Reloading commands) is = absurd is

-- ---- entries
pub entry_back : (event : PlainEvent) (v : Verdict) → IsEvent event → IsVerdict v
    → entry_in (entry_bytes event v) ≡ Some (entry_told event v)
entry_back event v is_event is_verdict =
    ap
    (λ (read : Option (Verdict × List ℕ)). read >>= λ w. event_in w.1 >>= λ e.
    Some (entry_told e w.0)) (verdict_back v is_verdict (event_bytes event))
    ∙ ap (λ (read : Option PlainEvent). read >>= λ e. Some (entry_told e v))
    (event_back event is_event)

-- ---- what is told of an event is what is recorded of it
-- a refused admission or answer of this call
abbrev refused : PlainEvent → AdmitRefusal → List ℕ → Option Route → ℕ → PlainEntry
refused event refusal zone led call = record {
  event = event;
  reply = reply.AdmitRefused call refusal;
  zone = Some zone;
  route = led;
  opened = false;
}

pub told_by : (event : PlainEvent) (r : LentRuling) → Agrees event r
    → entry_told event (verdict_meant r) ≡ entry_by event (ruling_meant r)
told_by event (ruling.Registered id zone) is =
    ap (λ (i : List ℕ). unrouted_entry event (reply.Registered i zone)) (sym is)
told_by event (ruling.RegisterRefused id reason) is =
    ap (λ (i : List ℕ). unrouted_entry event (reply.RegisterRefused i reason)) (sym is)
told_by event (ruling.Unregistered id) is =
    ap (λ (i : List ℕ). unrouted_entry event (reply.Unregistered i)) (sym is)
told_by event (ruling.UnregisterRefused id reason) is =
    ap (λ (i : List ℕ). unrouted_entry event (reply.UnregisterRefused i reason)) (sym is)
told_by event (ruling.Admitted call owner source target remote units kind name address) is =
    let d = destination_meant kind name.now address in
    ap (λ (c : ℕ). led_entry event (reply.Admitted c d (asked_units event)) source.now d true)
    (sym is.0)
    ∙ ap (λ (u : ℕ). led_entry event (reply.Admitted call d u) source.now d true) (sym is.1)
told_by event (ruling.Answering call owner zone units kind address) is =
    let made : ℕ → ℕ → List ℕ → PlainEntry = λ c u i.
    led_entry event (reply.Admitted c (destination_meant kind i address) u) zone.now
    (destination_meant kind i address) true in
    ap (λ (c : ℕ). made c (asked_units event) (asked_id event)) (sym is.0)
    ∙ ap (λ (u : ℕ). made call u (asked_id event)) (sym is.1)
    ∙ ap (made call units) (sym is.2)
told_by event (ruling.Repeated call zone units kind name address) is =
    let d = destination_meant kind name.now address in
    ap (λ (c : ℕ). led_entry event (reply.Admitted c d units) zone.now d false) (sym is)
told_by event (ruling.CallerNotRegistered call) is =
    ap (λ (c : ℕ). unrouted_entry event (reply.AdmitRefused c admit.CallerNotRegistered)) (sym is)
told_by event (ruling.CallOpen call source) is =
    ap (refused event admit.CallOpen source.now None) (sym is)
told_by event (ruling.NoRoute call source refusal) is =
    ap (refused event (admit.NoRoute refusal) source.now (Some (route.Refused refusal))) (sym is)
told_by event (ruling.OverLimit call source kind name address over) is =
    ap
    (refused event (admit.OverLimit over) source.now
    (Some (route.To (destination_meant kind name.now address)))) (sym is)
told_by event (ruling.Changed call id units) is =
    ap (λ (c : ℕ). unrouted_entry event (reply.Changed c (asked_units event))) (sym is.0)
    ∙ ap (λ (u : ℕ). unrouted_entry event (reply.Changed call u)) (sym is.1)
told_by event (ruling.ChangeRefused call reason) is =
    ap (λ (c : ℕ). unrouted_entry event (reply.ChangeRefused c reason)) (sym is)
told_by event (ruling.Released call id) is =
    ap (λ (c : ℕ). unrouted_entry event (reply.Released c)) (sym is.0)
told_by event (ruling.ReleaseRefused call reason) is =
    ap (λ (c : ℕ). unrouted_entry event (reply.ReleaseRefused c reason)) (sym is)
told_by event (ruling.Reloaded version) is = refl

-- what is written of an event reads back as what is recorded of it
pub entry_by_back : (event : PlainEvent) (r : LentRuling) → IsEvent event
    → IsVerdict (verdict_meant r) → Agrees event r
    → entry_in (entry_bytes event (verdict_meant r)) ≡ Some (entry_by event (ruling_meant r))
entry_by_back event r is_event is_verdict agrees =
    entry_back event (verdict_meant r) is_event is_verdict
    ∙ ap (λ (e : PlainEntry). Some e) (told_by event r agrees)
