-- Whose receipt it is, by what the event of an entry asks.
use Rattle.std.proofs.Common.{◌≡◌, ℕ, List, Option, Some, None, refl, ap, subst}
use Rattle.std.specs.Prelude.{◌↔◌, option_map}
use Rattle.std.specs.Option.{option_and_then}
use Rattle.rulings.specs.Events.{PlainEvent, Registering, Unregistering, Admitting, Answering, Changing, Releasing, Reloading, call_number_of, id_of, kind_of}
use Rattle.rulings.specs.Lent.{destination_meant}
use Rattle.rulings.specs.declared.replies.Reply.{Reply}
use Rattle.rulings.specs.declared.replies.Reply.TheVariants as reply
use Rattle.field_bytes.specs.Fields.{◌>>=◌}
use Rattle.entry_bytes.specs.Brief.{brief_of, admitted_meant, number_of}
use Rattle.entry_bytes.specs.Entry.{asked_call, asked_id, asked_units, entry_told}
use Rattle.entry_bytes.specs.EntryBytes.{entry_after}
use Rattle.entry_bytes.specs.EventBytes.{event_in}
use Rattle.entry_bytes.specs.declared.brief_event.BriefEvent.{BriefEvent}
use Rattle.entry_bytes.specs.declared.admitted_to.AdmittedTo.{AdmittedTo}
use Rattle.entry_bytes.specs.declared.verdicts.Verdict.{Verdict}
use Rattle.entry_bytes.specs.declared.verdicts.Verdict.TheVariants as verdict
use Rattle.decision_record.specs.History.{IsOfAsked, receipt_of}
use Rattle.decision_record.specs.declared.entries.Receipt.{Receipt}

-- ---- what an event asks
pub record Tells (event : PlainEvent) (asked : BriefEvent) : Type 0 where
  pub kind : asked.kind ≡ kind_of event
  pub some_id : Some asked.id ≡ id_of event
  pub call : asked.call ≡ call_number_of event
  pub id : asked.id ≡ asked_id event
  pub number : number_of asked ≡ asked_call event
  pub units : asked.units ≡ asked_units event

abbrev given : {A : Type 0} → A → Option A → A
given other None = other
given other (Some x) = x

pub told : (event : PlainEvent) (asked : BriefEvent) → brief_of event ≡ Some asked → Tells event asked
told (Registering endpoint) asked is = subst (Tells (Registering endpoint)) (ap (given asked) is)
    (record { kind = refl; some_id = refl; call = refl; id = refl; number = refl; units = refl })
told (Unregistering id) asked is = subst (Tells (Unregistering id)) (ap (given asked) is)
    (record { kind = refl; some_id = refl; call = refl; id = refl; number = refl; units = refl })
told (Admitting id call digits units) asked is =
    subst (Tells (Admitting id call digits units)) (ap (given asked) is)
    (record { kind = refl; some_id = refl; call = refl; id = refl; number = refl; units = refl })
told (Answering id call units) asked is =
    subst (Tells (Answering id call units)) (ap (given asked) is)
    (record { kind = refl; some_id = refl; call = refl; id = refl; number = refl; units = refl })
told (Changing id call units) asked is =
    subst (Tells (Changing id call units)) (ap (given asked) is)
    (record { kind = refl; some_id = refl; call = refl; id = refl; number = refl; units = refl })
told (Releasing id call) asked is = subst (Tells (Releasing id call)) (ap (given asked) is)
    (record { kind = refl; some_id = refl; call = refl; id = refl; number = refl; units = refl })
told (Reloading commands) asked is = let never : ⊥ = cc in absurd never

-- ---- the receipt of an entry
-- of an event that asked this, with this reply
abbrev receipt_by : (number : ℕ) → BriefEvent → Reply → Receipt
receipt_by number asked replied = record {
  number = number;
  kind = asked.kind;
  id = Some asked.id;
  call = asked.call;
  reply = replied;
}

abbrev Same : BriefEvent → Reply → Receipt → Type 0
Same asked replied receipt = IsOfAsked asked receipt × (receipt.reply ≡ replied)

same_receipt : (asked : BriefEvent) (replied : Reply) (receipt : Receipt)
    → Same asked replied receipt
    ↔ (Some receipt ≡ Some (receipt_by receipt.number asked replied))
same_receipt asked replied receipt = (
  λ same i. Some (record {
    number = receipt.number;
    kind = same.0.kind i;
    id = same.0.id i;
    call = same.0.call i;
    reply = same.1 i;
  }),
  λ some.
      let is : receipt ≡ receipt_by receipt.number asked replied = ap (given receipt) some in (
        record {
          kind = ap (λ (r : Receipt). r.kind) is;
          call = ap (λ (r : Receipt). r.call) is;
          id = ap (λ (r : Receipt). r.id) is;
        },
        ap (λ (r : Receipt). r.reply) is,
      ),
)

-- of an entry with this verdict, to which this is replied
module _ (v : Verdict) (replied : BriefEvent → Reply)
    (receipt_is : (number : ℕ) (event : PlainEvent) (asked : BriefEvent) → Tells event asked
    → receipt_by number asked (replied asked) ≡ receipt_of number (entry_told event v)) where
  abbrev Is : Option PlainEvent → Receipt → Type 0
  Is read receipt =
      Some receipt
      ≡ option_map (receipt_of receipt.number) (read >>= λ event. Some (entry_told event v))

  of_event : (read : Option PlainEvent) (asked : BriefEvent) (receipt : Receipt)
      → option_and_then brief_of read ≡ Some asked
      → Same asked (replied asked) receipt ↔ Is read receipt
  of_event None asked receipt is = let never : ⊥ = cc in absurd never
  of_event (Some event) asked receipt is =
      subst (λ (r : Receipt). Same asked (replied asked) receipt ↔ (Some receipt ≡ Some r))
      (receipt_is receipt.number event asked (told event asked is))
      (same_receipt asked (replied asked) receipt)

abbrev IsOf : Option (Verdict × List ℕ) → Receipt → Type 0
IsOf read receipt =
    Some receipt ≡ option_map (receipt_of receipt.number) (entry_after read)

pub released_by : (bytes : List ℕ) (asked : BriefEvent) (receipt : Receipt)
    → option_and_then brief_of (event_in bytes) ≡ Some asked
    → Same asked (reply.Released (number_of asked)) receipt
    ↔ IsOf (Some (verdict.Released, bytes)) receipt
released_by bytes asked receipt is =
    of_event verdict.Released (λ a. reply.Released (number_of a))
    (λ number event a t i. record {
      number = number;
      kind = t.kind i;
      id = t.some_id i;
      call = t.call i;
      reply = reply.Released (t.number i);
    }) (event_in bytes) asked receipt is

pub changed_by : (bytes : List ℕ) (asked : BriefEvent) (receipt : Receipt)
    → option_and_then brief_of (event_in bytes) ≡ Some asked
    → Same asked (reply.Changed (number_of asked) asked.units) receipt
    ↔ IsOf (Some (verdict.Changed, bytes)) receipt
changed_by bytes asked receipt is =
    of_event verdict.Changed (λ a. reply.Changed (number_of a) a.units)
    (λ number event a t i. record {
      number = number;
      kind = t.kind i;
      id = t.some_id i;
      call = t.call i;
      reply = reply.Changed (t.number i) (t.units i);
    }) (event_in bytes) asked receipt is

pub registered_by : (bytes zone : List ℕ) (asked : BriefEvent) (receipt : Receipt)
    → option_and_then brief_of (event_in bytes) ≡ Some asked
    → Same asked (reply.Registered asked.id zone) receipt
    ↔ IsOf (Some (verdict.Registered zone, bytes)) receipt
registered_by bytes zone asked receipt is =
    of_event (verdict.Registered zone) (λ a. reply.Registered a.id zone)
    (λ number event a t i. record {
      number = number;
      kind = t.kind i;
      id = t.some_id i;
      call = t.call i;
      reply = reply.Registered (t.id i) zone;
    }) (event_in bytes) asked receipt is

pub admitted_by : (bytes : List ℕ) (led : AdmittedTo) (asked : BriefEvent) (receipt : Receipt)
    → option_and_then brief_of (event_in bytes) ≡ Some asked
    → Same asked (reply.Admitted (number_of asked)
    (destination_meant led.kind led.name led.address) asked.units) receipt
    ↔ IsOf (Some (admitted_meant led, bytes)) receipt
admitted_by bytes led asked receipt is =
    of_event (admitted_meant led)
    (λ a. reply.Admitted (number_of a) (destination_meant led.kind led.name led.address) a.units)
    (λ number event a t i. record {
      number = number;
      kind = t.kind i;
      id = t.some_id i;
      call = t.call i;
      reply = reply.Admitted (t.number i) (destination_meant led.kind led.name led.address)
          (t.units i);
    }) (event_in bytes) asked receipt is
