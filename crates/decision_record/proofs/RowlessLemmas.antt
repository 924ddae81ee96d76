-- Entries that have no row.
use Rattle.std.proofs.Common.{◌≡◌, ℕ, Bool, true, false, cond, List, Option, Some, None, refl, sym, ap, ◌∙◌, true≢false}
use Rattle.std.specs.Prelude.{IfSome}
use Rattle.std.specs.Option.{option_and_then}
use Rattle.call_rows.specs.declared.rows.CallEvent.TheVariants as rows
use Rattle.rulings.specs.Events.{PlainEvent, Registering, Unregistering, Admitting, Answering, Changing, Releasing, Reloading}
use Rattle.rulings.specs.Step.{is_granted}
use Rattle.rulings.specs.declared.events.EventKind.TheVariants.{Registration, Unregistration, Admission, Incoming, BandwidthChange, Release, Reload}
use Rattle.rulings.specs.declared.replies.ChangeRefusal.{ChangeRefusal}
use Rattle.rulings.specs.declared.replies.RegisterRefusal.{RegisterRefusal}
use Rattle.rulings.specs.declared.replies.ReleaseRefusal.{ReleaseRefusal}
use Rattle.rulings.specs.declared.replies.Reply.{Reply}
use Rattle.rulings.specs.declared.replies.UnregisterRefusal.{UnregisterRefusal}
use Rattle.rulings.specs.declared.routes.Route.{Route}
use Rattle.field_bytes.specs.Fields.{◌>>=◌, byte_in, name_in}
use Rattle.entry_bytes.specs.Brief.{brief_of}
use Rattle.entry_bytes.specs.Codes.{register_refusal_of, release_refusal_of, unregister_refusal_of}
use Rattle.entry_bytes.specs.Entry.{entry_told}
use Rattle.entry_bytes.specs.EntryBytes.{entry_after, entry_in}
use Rattle.entry_bytes.specs.EventBytes.{event_in}
use Rattle.entry_bytes.specs.Refusals.{change_refusal_in}
use Rattle.entry_bytes.specs.VerdictBytes.{verdict_at, verdict_in, verdict_kind_of}
use Rattle.entry_bytes.specs.declared.brief_event.BriefEvent.{BriefEvent}
use Rattle.entry_bytes.specs.declared.verdict_kinds.VerdictKind.{VerdictKind}
use Rattle.entry_bytes.specs.declared.verdict_kinds.VerdictKind.TheVariants as kind
use Rattle.entry_bytes.specs.declared.verdicts.Verdict.{Verdict}
use Rattle.entry_bytes.specs.declared.verdicts.Verdict.TheVariants as verdict
use Rattle.decision_record.proofs.ReceiptLemmas.{Tells, told}
use Rattle.decision_record.proofs.RowLemmas.{said_of_told}
use Rattle.decision_record.specs.Rows.{answered_event, answered_verdict, entry_row, event_said, is_rowless, routed_event, routed_verdict, row_of}

-- ---- by the verdict
-- a reply that says nothing of a call that was not open before
record IsQuiet (replied : Reply) : Type 0 where
  routed : routed_verdict replied ≡ None
  answered : answered_verdict replied false ≡ None
  granted : is_granted replied ≡ false

said_by_quiet : (event : PlainEvent) (replied : Reply) (place : Option (List ℕ)) (led : Option Route)
    → IsQuiet replied → event_said event replied place led false ≡ None
said_by_quiet (Registering endpoint) replied place led is = refl
said_by_quiet (Unregistering id) replied place led is = refl
said_by_quiet (Admitting id call digits units) replied place led is =
    ap (λ (granted : Option Bool). routed_event call digits units granted place led) is.routed
said_by_quiet (Answering id call units) replied place led is =
    ap (λ (granted : Option Bool). answered_event call units granted place led) is.answered
said_by_quiet (Changing id call units) replied place led is =
    ap (λ (t : Bool). cond t (Some (rows.Changed call units)) None) is.granted
said_by_quiet (Releasing id call) replied place led is =
    ap (λ (t : Bool). cond t (Some (rows.Released call)) None) is.granted
said_by_quiet (Reloading commands) replied place led is = refl

quiet_row : (number : ℕ) (event : PlainEvent) (replied : Reply) (place : Option (List ℕ))
    (led : Option Route) → IsQuiet replied
    → None ≡ option_and_then (row_of number) (event_said event replied place led false)
quiet_row number event replied place led is =
    ap (option_and_then (row_of number)) (sym (said_by_quiet event replied place led is))

-- a verdict of which no event has a row
abbrev IsRowless : Verdict → Type 0
IsRowless v = (number : ℕ) (event : PlainEvent) → None ≡ entry_row number (entry_told event v)

abbrev AreRowless : Option (Verdict × List ℕ) → Type 0
AreRowless read = IfSome read (λ v. IsRowless v.0)

rowless_register_refused : (reason : RegisterRefusal) → IsRowless (verdict.RegisterRefused reason)
rowless_register_refused reason number event =
    quiet_row number event _ None None (record { routed = refl; answered = refl; granted = refl })

rowless_unregister_refused : (reason : UnregisterRefusal)
    → IsRowless (verdict.UnregisterRefused reason)
rowless_unregister_refused reason number event =
    quiet_row number event _ None None (record { routed = refl; answered = refl; granted = refl })

rowless_stranger : IsRowless verdict.CallerNotRegistered
rowless_stranger number event =
    quiet_row number event _ None None (record { routed = refl; answered = refl; granted = refl })

rowless_call_open : (zone : List ℕ) → IsRowless (verdict.CallOpen zone)
rowless_call_open zone number event =
    quiet_row number event _ (Some zone) None
    (record { routed = refl; answered = refl; granted = refl })

rowless_change_refused : (reason : ChangeRefusal) → IsRowless (verdict.ChangeRefused reason)
rowless_change_refused reason number event =
    quiet_row number event _ None None (record { routed = refl; answered = refl; granted = refl })

rowless_release_refused : (reason : ReleaseRefusal) → IsRowless (verdict.ReleaseRefused reason)
rowless_release_refused reason number event =
    quiet_row number event _ None None (record { routed = refl; answered = refl; granted = refl })

-- ---- by the kind of the verdict
of_read : {A : Type 0} (read : Option A) (next : A → Option (Verdict × List ℕ))
    → ((a : A) → AreRowless (next a)) → AreRowless (read >>= next)
of_read None next all = tt
of_read (Some a) next all = all a

at_kind : (k : VerdictKind) (bytes : List ℕ) → is_rowless k ≡ true → AreRowless (verdict_at k bytes)
unfolding verdict_at
at_kind kind.Registered bytes is = absurd (true≢false (sym is))
at_kind kind.RegisterRefused bytes is =
    of_read (byte_in bytes) _ (λ code. of_read (register_refusal_of code.0) _ rowless_register_refused)
at_kind kind.Unregistered bytes is = absurd (true≢false (sym is))
at_kind kind.UnregisterRefused bytes is =
    of_read (byte_in bytes) _
    (λ code. of_read (unregister_refusal_of code.0) _ rowless_unregister_refused)
at_kind kind.Admitted bytes is = absurd (true≢false (sym is))
at_kind kind.Answering bytes is = absurd (true≢false (sym is))
at_kind kind.Repeated bytes is = absurd (true≢false (sym is))
at_kind kind.CallerNotRegistered bytes is = rowless_stranger
at_kind kind.CallOpen bytes is =
    of_read (name_in bytes) _ (λ zone. rowless_call_open zone.0)
at_kind kind.NoRoute bytes is = absurd (true≢false (sym is))
at_kind kind.OverLimit bytes is = absurd (true≢false (sym is))
at_kind kind.Changed bytes is = absurd (true≢false (sym is))
at_kind kind.ChangeRefused bytes is =
    of_read (change_refusal_in bytes) _ (λ reason. rowless_change_refused reason.0)
at_kind kind.Released bytes is = absurd (true≢false (sym is))
at_kind kind.ReleaseRefused bytes is =
    of_read (byte_in bytes) _ (λ code. of_read (release_refusal_of code.0) _ rowless_release_refused)
at_kind kind.Reloaded bytes is = absurd (true≢false (sym is))

no_row_after : (number : ℕ) (read : Option (Verdict × List ℕ)) → AreRowless read
    → None ≡ option_and_then (entry_row number) (entry_after read)
no_row_after number None are = refl
no_row_after number (Some v) are = by (event_in v.1)
  where
    by : (read : Option PlainEvent)
        → None ≡ option_and_then (entry_row number)
        (read >>= λ event. Some (entry_told event v.0))
    by None = refl
    by (Some event) = are number event

pub no_row_of_kind : (number : ℕ) (bytes rest : List ℕ) (code : ℕ) (k : VerdictKind)
    → byte_in bytes ≡ Some (code, rest) → verdict_kind_of code ≡ Some k → is_rowless k ≡ true
    → None ≡ option_and_then (entry_row number) (entry_in bytes)
unfolding verdict_in
no_row_of_kind number bytes rest code k byte is rowless =
    no_row_after number (verdict_at k rest) (at_kind k rest rowless)
    ∙ ap (λ (o : Option VerdictKind). option_and_then (entry_row number)
    (entry_after (o >>= λ k. verdict_at k rest))) (sym is)
    ∙ ap (λ (o : Option (ℕ × List ℕ)). option_and_then (entry_row number)
    (entry_after (o >>= λ code. verdict_kind_of code.0 >>= λ k. verdict_at k code.1))) (sym byte)

-- ---- by the event
-- one that registers or leaves has none, whatever the verdict
no_row_of_event : (number : ℕ) (event : PlainEvent) (v : Verdict)
    → ((replied : Reply) (place : Option (List ℕ)) (led : Option Route) (opened : Bool)
    → event_said event replied place led opened ≡ None)
    → None ≡ entry_row number (entry_told event v)
no_row_of_event number event v none =
    ap (option_and_then (row_of number))
    (sym (none (entry_told event v).reply (entry_told event v).zone (entry_told event v).route
    (entry_told event v).opened) ∙ said_of_told event v)

registered_event : (number : ℕ) (v : Verdict) (event : PlainEvent) (asked : BriefEvent)
    → Tells event asked → asked.kind ≡ Registration
    → None ≡ entry_row number (entry_told event v)
registered_event number v (Registering endpoint) asked t is =
    no_row_of_event number (Registering endpoint) v (λ replied place led opened. refl)
registered_event number v (Unregistering id) asked t is =
    let same : Unregistration ≡ Registration = sym t.kind ∙ is in
    let impossible : ⊥ = cc in absurd impossible
registered_event number v (Admitting id call digits units) asked t is =
    let same : Admission ≡ Registration = sym t.kind ∙ is in
    let impossible : ⊥ = cc in absurd impossible
registered_event number v (Answering id call units) asked t is =
    let same : Incoming ≡ Registration = sym t.kind ∙ is in
    let impossible : ⊥ = cc in absurd impossible
registered_event number v (Changing id call units) asked t is =
    let same : BandwidthChange ≡ Registration = sym t.kind ∙ is in
    let impossible : ⊥ = cc in absurd impossible
registered_event number v (Releasing id call) asked t is =
    let same : Release ≡ Registration = sym t.kind ∙ is in
    let impossible : ⊥ = cc in absurd impossible
registered_event number v (Reloading commands) asked t is =
    let same : Reload ≡ Registration = sym t.kind ∙ is in
    let impossible : ⊥ = cc in absurd impossible

pub no_row_of_registration : (number : ℕ) (v : Verdict) (bytes : List ℕ) (asked : BriefEvent)
    → option_and_then brief_of (event_in bytes) ≡ Some asked → asked.kind ≡ Registration
    → None ≡ option_and_then (entry_row number) (entry_after (Some (v, bytes)))
no_row_of_registration number v bytes asked is registration = by (event_in bytes) is
  where
    by : (read : Option PlainEvent) → option_and_then brief_of read ≡ Some asked
        → None ≡ option_and_then (entry_row number) (read >>= λ event. Some (entry_told event v))
    by None is = let impossible : ⊥ = cc in absurd impossible
    by (Some event) is =
        registered_event number v event asked (told event asked is) registration
