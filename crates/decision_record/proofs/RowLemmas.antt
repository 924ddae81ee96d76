-- The rows of a record.
use Rattle.std.proofs.Common.{◌≡◌, ℕ, Bool, true, false, cond, List, Option, Some, None, refl, sym, ap, ◌∙◌, subst, true≢false}
use Rattle.std.specs.Prelude.{IfSome, IsSome, ◌↔◌, option_map}
use Rattle.std.specs.Option.{option_and_then}
use Rattle.call_rows.specs.declared.rows.CallEvent.{CallEvent}
use Rattle.call_rows.specs.Rows.{RowParts, is_row}
use Rattle.rulings.specs.Events.{PlainEvent, Registering, Unregistering, Admitting, Answering, Changing, Releasing, Reloading}
use Rattle.rulings.specs.declared.events.EventKind.TheVariants.{Registration, Unregistration, Admission, Incoming, BandwidthChange, Release, Reload}
use Rattle.call_rows.specs.declared.rows.CallEvent.TheVariants as rows
use Rattle.field_bytes.specs.Fields.{◌>>=◌, dialled_in}
use Rattle.entry_bytes.proofs.KnownLemmas.{never}
use Rattle.entry_bytes.proofs.BriefLemmas.{known_some}
use Rattle.entry_bytes.specs.Brief.{MeansEvent, admission_of, brief_of, admitted_meant, number_of}
use Rattle.entry_bytes.specs.Entry.{entry_told}
use Rattle.entry_bytes.specs.EntryBytes.{entry_after}
use Rattle.entry_bytes.specs.EventBytes.{event_in}
use Rattle.entry_bytes.specs.declared.brief_event.BriefEvent.{BriefEvent}
use Rattle.entry_bytes.specs.declared.admitted_to.AdmittedTo.{AdmittedTo}
use Rattle.decision_record.proofs.ReceiptLemmas.{Tells, told}
use Rattle.entry_bytes.specs.ReadEntry.{entry_read}
use Rattle.entry_bytes.specs.ReadEvent.{event_read}
use Rattle.entry_bytes.specs.declared.entry_reading.ReadEntry.{ReadEntry}
use Rattle.entry_bytes.specs.declared.verdicts.Verdict.{Verdict}
use Rattle.entry_bytes.specs.declared.verdicts.Verdict.TheVariants as verdict
use Rattle.decision_record.specs.Rows.{call_event, entry_row, event_said, row_of}

-- a row of a number, if it is one
pub row_made : (number : ℕ) (event : CallEvent) (o : Option RowParts)
    → IfSome o (λ row. row ≡ record { number = number; event = event })
    → ((o ≡ None) ↔ (is_row (record { number = number; event = event }) ≡ false))
    → o ≡ row_of number event
row_made number event o some none =
    by (is_row (record { number = number; event = event })) refl o some none
  where
    by : (t : Bool) → is_row (record { number = number; event = event }) ≡ t → (o : Option RowParts)
        → IfSome o (λ row. row ≡ record { number = number; event = event })
        → ((o ≡ None) ↔ (is_row (record { number = number; event = event }) ≡ false))
        → o ≡ cond t (Some (record { number = number; event = event })) None
    by true is None some none = absurd (true≢false (sym is ∙ none.0 refl))
    by true is (Some row) some none = ap Some some
    by false is o some none = none.1 is

-- ---- entries that were read
-- what is told of an event says what the event says with it
pub said_of_told : (event : PlainEvent) (v : Verdict)
    → event_said event (entry_told event v).reply (entry_told event v).zone
    (entry_told event v).route (entry_told event v).opened
    ≡ call_event (entry_told event v)
said_of_told event (verdict.Registered zone) = refl
said_of_told event (verdict.RegisterRefused reason) = refl
said_of_told event verdict.Unregistered = refl
said_of_told event (verdict.UnregisterRefused reason) = refl
said_of_told event (verdict.Admitted zone k name address) = refl
said_of_told event (verdict.Answering zone k address) = refl
said_of_told event (verdict.Repeated zone units k name address) = refl
said_of_told event verdict.CallerNotRegistered = refl
said_of_told event (verdict.CallOpen zone) = refl
said_of_told event (verdict.NoRoute zone refusal) = refl
said_of_told event (verdict.OverLimit zone k name address over) = refl
said_of_told event verdict.Changed = refl
said_of_told event (verdict.ChangeRefused reason) = refl
said_of_told event verdict.Released = refl
said_of_told event (verdict.ReleaseRefused reason) = refl
said_of_told event (verdict.Reloaded version) = refl

pub said_of_read : (read : ReadEntry)
    → event_said (event_read read.event) (entry_read read).reply (entry_read read).zone
    (entry_read read).route (entry_read read).opened
    ≡ call_event (entry_read read)
said_of_read read = said_of_told (event_read read.event) read.verdict

-- ---- entries of which the event tells what it asks
-- an admission has its digits
pub digits_there : (asked : BriefEvent) (rest : List ℕ) → IsSome (admission_of asked rest)
    → dialled_in rest ≡ None → ⊥
digits_there asked rest known none =
    never (dialled_in rest)
    (λ digits. Some (Admitting asked.id (number_of asked) digits.0 asked.units)) known none

pub admission_known : (bytes rest : List ℕ) (asked : BriefEvent) → MeansEvent (event_in bytes)
    → event_in bytes ≡ admission_of asked rest → IsSome (admission_of asked rest)
admission_known bytes rest asked known is =
    known_some (admission_of asked rest) (subst MeansEvent is known)

told_some : (v : Verdict) (read : Option PlainEvent)
    → option_map (λ event. entry_told event v) read
    ≡ (read >>= λ event. Some (entry_told event v))
told_some v None = refl
told_some v (Some event) = refl

-- so what it says is said by the entry
pub admitted_row : (number : ℕ) (bytes rest : List ℕ) (led : AdmittedTo) (asked : BriefEvent)
    → event_in bytes ≡ admission_of asked rest
    → option_and_then (entry_row number)
    (option_map (λ event. entry_told event (admitted_meant led)) (admission_of asked rest))
    ≡ option_and_then (entry_row number) (entry_after (Some (admitted_meant led, bytes)))
admitted_row number bytes rest led asked is =
    ap (option_and_then (entry_row number))
    (told_some (admitted_meant led) (admission_of asked rest)
    ∙ ap (λ (read : Option PlainEvent). read >>= λ event. Some (entry_told event (admitted_meant led)))
    (sym is))

-- that a call was released
of_kind : (number : ℕ) (event : PlainEvent) (asked : BriefEvent) → Tells event asked
    → asked.kind ≡ Release
    → row_of number (rows.Released (number_of asked))
    ≡ entry_row number (entry_told event verdict.Released)
of_kind number (Registering endpoint) asked t release =
    let is : Registration ≡ Release = sym t.kind ∙ release in
    let impossible : ⊥ = cc in absurd impossible
of_kind number (Unregistering id) asked t release =
    let is : Unregistration ≡ Release = sym t.kind ∙ release in
    let impossible : ⊥ = cc in absurd impossible
of_kind number (Admitting id call digits units) asked t release =
    let is : Admission ≡ Release = sym t.kind ∙ release in
    let impossible : ⊥ = cc in absurd impossible
of_kind number (Answering id call units) asked t release =
    let is : Incoming ≡ Release = sym t.kind ∙ release in
    let impossible : ⊥ = cc in absurd impossible
of_kind number (Changing id call units) asked t release =
    let is : BandwidthChange ≡ Release = sym t.kind ∙ release in
    let impossible : ⊥ = cc in absurd impossible
of_kind number (Releasing id call) asked t release =
    ap (λ (n : ℕ). row_of number (rows.Released n)) t.number
of_kind number (Reloading commands) asked t release =
    let is : Reload ≡ Release = sym t.kind ∙ release in
    let impossible : ⊥ = cc in absurd impossible

pub released_row : (number : ℕ) (bytes : List ℕ) (asked : BriefEvent)
    → option_and_then brief_of (event_in bytes) ≡ Some asked → asked.kind ≡ Release
    → row_of number (rows.Released (number_of asked))
    ≡ option_and_then (entry_row number) (entry_after (Some (verdict.Released, bytes)))
released_row number bytes asked is release = by (event_in bytes) is
  where
    by : (read : Option PlainEvent) → option_and_then brief_of read ≡ Some asked
        → row_of number (rows.Released (number_of asked))
        ≡ option_and_then (entry_row number)
        (read >>= λ event. Some (entry_told event verdict.Released))
    by None is = let impossible : ⊥ = cc in absurd impossible
    by (Some event) is = of_kind number event asked (told event asked is) release
