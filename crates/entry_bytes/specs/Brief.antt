-- An event in brief, and where an admitted call leads.
use Rattle.std.specs.Prelude.{ℕ, List, Option, Some, None, option_map, unwrap_or}
use Rattle.rulings.specs.Events.{PlainEvent, Admitting, call_number_of, id_of, kind_of}
use Rattle.rulings.specs.declared.events.EventKind.{EventKind}
use Rattle.field_bytes.specs.Fields.{◌>>=◌, dialled_in, name_in, number_in}
use Rattle.entry_bytes.specs.Entry.{asked_units}
use Rattle.entry_bytes.specs.ReadEvent.{HasRightEndpoint}
use Rattle.entry_bytes.specs.declared.brief_event.BriefEvent.{BriefEvent}
use Rattle.entry_bytes.specs.declared.admitted_to.AdmittedTo.{AdmittedTo}
use Rattle.entry_bytes.specs.declared.verdicts.Verdict.{Verdict}
use Rattle.entry_bytes.specs.declared.verdicts.Verdict.TheVariants as verdict

-- ---- what an event asks
-- a reload asks nothing: an operator has no ID
abbrev pub brief_of : PlainEvent → Option BriefEvent
brief_of event =
    option_map (λ id. record {
      kind = kind_of event;
      id = id;
      call = call_number_of event;
      units = asked_units event;
    }) (id_of event)

-- the number of the call that it is about; 0 if it is about none
abbrev pub number_of : BriefEvent → ℕ
number_of asked = unwrap_or asked.call 0

-- an event was read, and its endpoint, if it has one, is whole
abbrev pub MeansEvent : Option PlainEvent → Type 0
MeansEvent None = ⊥
MeansEvent (Some event) = HasRightEndpoint event

-- what an event of this kind asks that names a bandwidth, with the bytes that are left
abbrev pub with_units_in : EventKind → List ℕ → Option (BriefEvent × List ℕ)
with_units_in kind bytes = do
  call ← number_in bytes
  units ← number_in call.1
  id ← name_in units.1
  Some (record { kind = kind; id = id.0; call = Some call.0; units = units.0 }, id.1)

-- the admission that asks this, to the digits that are left
abbrev pub admission_of : BriefEvent → List ℕ → Option PlainEvent
admission_of asked rest = do
  digits ← dialled_in rest
  Some (Admitting asked.id (number_of asked) digits.0 asked.units)

-- ---- where an admitted call leads
abbrev pub admitted_meant : AdmittedTo → Verdict
admitted_meant led = verdict.Admitted led.zone led.kind led.name led.address
