-- What is added of an entry and of its parts reads back.
use Rattle.std.specs.Prelude.{◌≡◌, ℕ, Option, Some}
use Rattle.bandwidth.specs.declared.over.Over.{Over}
use Rattle.registry.specs.Endpoint.{EndpointParts}
use Rattle.rulings.specs.Events.{PlainEvent}
use Rattle.rulings.specs.Lent.{ruling_meant}
use Rattle.rulings.specs.Ruling.{ruling_of}
use Rattle.rulings.specs.State.{State}
use Rattle.rulings.specs.declared.lent_rulings.LentRuling.{LentRuling}
use Rattle.rulings.specs.declared.replies.ChangeRefusal.{ChangeRefusal}
use Rattle.field_bytes.specs.Fields.{ReadsBack, IsAddress}
use Rattle.entry_bytes.specs.Codes as codes
use Rattle.entry_bytes.specs.Refusals.{IsChangeRefusal, IsOver, change_refusal_bytes, change_refusal_in, over_bytes, over_in}
use Rattle.entry_bytes.specs.EndpointBytes.{endpoint_bytes, endpoint_in}
use Rattle.entry_bytes.specs.Entry.{Agrees, entry_by, verdict_meant}
use Rattle.entry_bytes.specs.EntryBytes.{entry_bytes, entry_in}
use Rattle.entry_bytes.specs.EventBytes.{IsEvent}
use Rattle.entry_bytes.specs.VerdictBytes.{IsVerdict}

-- the code of a value means that value
abbrev pub HasCodes : {A : Type 0} → (A → ℕ) → (ℕ → Option A) → Type 0
HasCodes {A} code value = (x : A) → value (code x) ≡ Some x

pub record CodesReadBack : Type 0 where
  pub endpoints : HasCodes codes.endpoint_kind_code codes.endpoint_kind_of
  pub destinations : HasCodes codes.destination_kind_code codes.destination_kind_of
  pub limits : HasCodes codes.limit_kind_code codes.limit_kind_of
  pub routes : HasCodes codes.route_refusal_code codes.route_refusal_of
  pub registrations : HasCodes codes.register_refusal_code codes.register_refusal_of
  pub unregistrations : HasCodes codes.unregister_refusal_code codes.unregister_refusal_of
  pub releases : HasCodes codes.release_refusal_code codes.release_refusal_of

abbrev pub OversReadBack : Type 0
OversReadBack = (over : Over) → IsOver over → ReadsBack over_in over (over_bytes over)

abbrev pub ChangeRefusalsReadBack : Type 0
ChangeRefusalsReadBack =
    (refusal : ChangeRefusal) → IsChangeRefusal refusal
    → ReadsBack change_refusal_in refusal (change_refusal_bytes refusal)

-- an endpoint takes all that is left
abbrev pub EndpointsReadBack : Type 0
EndpointsReadBack =
    (endpoint : EndpointParts) → IsAddress endpoint.address
    → endpoint_in (endpoint_bytes endpoint) ≡ Some endpoint

-- what is written of an event reads back as what is recorded of it
abbrev pub EntriesReadBack : Type 0
EntriesReadBack =
    (event : PlainEvent) (ruling : LentRuling) → IsEvent event → IsVerdict (verdict_meant ruling)
    → Agrees event ruling
    → entry_in (entry_bytes event (verdict_meant ruling))
    ≡ Some (entry_by event (ruling_meant ruling))

-- what is ruled of an event agrees with it
abbrev pub RulingsAgree : Type 0
RulingsAgree =
    (s : State) (event : PlainEvent) (ruling : LentRuling)
    → ruling_meant ruling ≡ ruling_of s event → Agrees event ruling
