-- What an event that is known to be read asks: each field is there.
use Rattle.std.proofs.Common.{◌≡◌, ℕ, List, Option, Some, None, refl, sym, ap, ◌∙◌, subst}
use Rattle.std.specs.Prelude.{IsSome, IfSome, option_map}
use Rattle.std.specs.Option.{option_and_then}
use Rattle.registry.specs.Endpoint.{EndpointParts}
use Rattle.rulings.specs.Events.{PlainEvent, Registering, Unregistering, Admitting, Answering, Changing, Releasing}
use Rattle.rulings.specs.declared.events.EventKind.{EventKind}
use Rattle.rulings.specs.declared.events.EventKind.TheVariants.{Admission, Incoming, BandwidthChange}
use Rattle.field_bytes.specs.Fields.{◌>>=◌, dialled_in, name_in, number_in}
use Rattle.entry_bytes.specs.Brief.{MeansEvent, admission_of, brief_of, number_of, with_units_in}
use Rattle.entry_bytes.specs.EndpointBytes.{endpoint_in}
use Rattle.entry_bytes.specs.EndpointTexts.{IsWhole}
use Rattle.entry_bytes.specs.EventBytes.{admitting_in, answering_event_in, changing_in, registering_in, releasing_in, unregistering_in}
use Rattle.entry_bytes.specs.declared.brief_event.BriefEvent.{BriefEvent}
use Rattle.entry_bytes.proofs.KnownLemmas.{first, never, after}

-- ---- an event that names a bandwidth
abbrev Read : Type 0
Read = Option (BriefEvent × List ℕ)

-- what is read after each field
abbrev id_then : EventKind → (call units : ℕ) → List ℕ × List ℕ → Read
id_then kind call units id =
    Some (record { kind = kind; id = id.0; call = Some call; units = units }, id.1)

abbrev units_then : EventKind → (call : ℕ) → ℕ × List ℕ → Read
units_then kind call units = name_in units.1 >>= id_then kind call units.0

abbrev call_then : EventKind → ℕ × List ℕ → Read
call_then kind call = number_in call.1 >>= units_then kind call.0

module _ (kind : EventKind) (bytes : List ℕ) (known : IsSome (with_units_in kind bytes)) where
  pub call_there : number_in bytes ≡ None → ⊥
  call_there none = never (number_in bytes) (call_then kind) known none

  module _ (call : ℕ) (after_call : List ℕ) (call_is : number_in bytes ≡ Some (call, after_call))
    where
      to_call : IsSome (call_then kind (call, after_call))
      to_call = after (number_in bytes) (call_then kind) (call, after_call) call_is known

      pub units_there : number_in after_call ≡ None → ⊥
      units_there none = never (number_in after_call) (units_then kind call) to_call none

      module _ (units : ℕ) (after_units : List ℕ)
          (units_is : number_in after_call ≡ Some (units, after_units)) where
        pub id_there : IsSome (name_in after_units)
        id_there =
            first (name_in after_units) (id_then kind call units)
            (after (number_in after_call) (units_then kind call) (units, after_units) units_is
            to_call)

-- ---- the others
pub known_some : (o : Option PlainEvent) → MeansEvent o → IsSome o
known_some None known = absurd known
known_some (Some event) known = refl

-- an endpoint that registers
pub endpoint_there : (bytes : List ℕ) → MeansEvent (registering_in bytes)
    → endpoint_in bytes ≡ None → ⊥
endpoint_there bytes known none =
    never (endpoint_in bytes) (λ endpoint. Some (Registering endpoint))
    (known_some (registering_in bytes) known) none

whole_if_any : (read : Option EndpointParts)
    → MeansEvent (read >>= λ endpoint. Some (Registering endpoint)) → IfSome read IsWhole
whole_if_any None known = tt
whole_if_any (Some endpoint) known = known

pub endpoint_is_whole : (bytes : List ℕ) → MeansEvent (registering_in bytes)
    → IfSome (endpoint_in bytes) IsWhole
endpoint_is_whole bytes known = whole_if_any (endpoint_in bytes) known

-- one that leaves
pub unregistering_id : (bytes : List ℕ) → MeansEvent (unregistering_in bytes)
    → IsSome (name_in bytes)
unregistering_id bytes known =
    first (name_in bytes) (λ id. Some (Unregistering id.0))
    (known_some (unregistering_in bytes) known)

-- one that releases a call
abbrev release_then : (call : ℕ) → List ℕ × List ℕ → Option PlainEvent
release_then call id = Some (Releasing id.0 call)

abbrev released_then : ℕ × List ℕ → Option PlainEvent
released_then call = name_in call.1 >>= release_then call.0

pub released_call : (bytes : List ℕ) → MeansEvent (releasing_in bytes) → number_in bytes ≡ None
    → ⊥
released_call bytes known none =
    never (number_in bytes) released_then (known_some (releasing_in bytes) known) none

pub releasing_id : (bytes : List ℕ) → MeansEvent (releasing_in bytes) → (call : ℕ)
    (after_call : List ℕ) → number_in bytes ≡ Some (call, after_call) → IsSome (name_in after_call)
releasing_id bytes known call after_call is =
    first (name_in after_call) (release_then call)
    (after (number_in bytes) released_then (call, after_call) is
    (known_some (releasing_in bytes) known))

-- ---- each that names a bandwidth, by what follows it
module _ (kind : EventKind) (event : BriefEvent × List ℕ → Option PlainEvent) where
  abbrev units_event : (call : ℕ) → ℕ × List ℕ → Option PlainEvent
  units_event call units = name_in units.1 >>= λ id. id_then kind call units.0 id >>= event

  abbrev call_event : ℕ × List ℕ → Option PlainEvent
  call_event call = number_in call.1 >>= units_event call.0

  -- what follows all of it follows its last field
  of_id : (call units : ℕ) (id : Option (List ℕ × List ℕ))
      → ((id >>= id_then kind call units) >>= event)
      ≡ (id >>= λ t. id_then kind call units t >>= event)
  of_id call units None = refl
  of_id call units (Some id) = refl

  of_units : (call : ℕ) (units : Option (ℕ × List ℕ))
      → ((units >>= units_then kind call) >>= event) ≡ (units >>= units_event call)
  of_units call None = refl
  of_units call (Some units) = of_id call units.0 (name_in units.1)

  of_call : (call : Option (ℕ × List ℕ))
      → ((call >>= call_then kind) >>= event) ≡ (call >>= call_event)
  of_call None = refl
  of_call (Some call) = of_units call.0 (number_in call.1)

  -- it asks that, if an event does that follows its last field
  abbrev Asks : Read → Type 0
  Asks read =
      MeansEvent (read >>= event)
      → option_and_then brief_of (read >>= event) ≡ option_map (λ asked. asked.0) read

  module _ (asks : (call units : ℕ) (id : List ℕ × List ℕ) → Asks (id_then kind call units id))
    where
      asks_id : (call units : ℕ) (id : Option (List ℕ × List ℕ))
          → Asks (id >>= id_then kind call units)
      asks_id call units None known = refl
      asks_id call units (Some id) known = asks call units id known

      asks_units : (call : ℕ) (units : Option (ℕ × List ℕ)) → Asks (units >>= units_then kind call)
      asks_units call None known = refl
      asks_units call (Some units) known = asks_id call units.0 (name_in units.1) known

      asks_call : (call : Option (ℕ × List ℕ)) → Asks (call >>= call_then kind)
      asks_call None known = refl
      asks_call (Some call) known = asks_units call.0 (number_in call.1) known

      -- so the event that is read
      module _ (bytes : List ℕ) (read : Option PlainEvent)
          (is : (with_units_in kind bytes >>= event) ≡ read) (known : MeansEvent read) where
        there : IsSome (with_units_in kind bytes)
        there =
            first (with_units_in kind bytes) event (subst IsSome (sym is) (known_some read known))

        is_asked : (asked : BriefEvent) (rest : List ℕ) → with_units_in kind bytes ≡ Some (asked, rest)
            → option_and_then brief_of read ≡ Some asked
        is_asked asked rest asked_is =
            ap (option_and_then brief_of) (sym is)
            ∙ asks_call (number_in bytes) (subst MeansEvent (sym is) known)
            ∙ ap (option_map (λ (r : BriefEvent × List ℕ). r.0)) asked_is

-- an admission, with its digits
abbrev admits : BriefEvent × List ℕ → Option PlainEvent
admits read = admission_of read.0 read.1

admits_all : (bytes : List ℕ) → (with_units_in Admission bytes >>= admits) ≡ admitting_in bytes
admits_all bytes = of_call Admission admits (number_in bytes)

with_digits : (id : List ℕ) (call units : ℕ) (digits : Option (List ℕ × List ℕ))
    → MeansEvent (digits >>= λ d. Some (Admitting id call d.0 units))
    → option_and_then brief_of (digits >>= λ d. Some (Admitting id call d.0 units))
    ≡ Some (record { kind = Admission; id = id; call = Some call; units = units })
with_digits id call units None known = absurd known
with_digits id call units (Some digits) known = refl

admission_asks : (call units : ℕ) (id : List ℕ × List ℕ)
    → Asks Admission admits (id_then Admission call units id)
admission_asks call units id known = with_digits id.0 call units (dialled_in id.1) known

pub admission_there : (bytes : List ℕ) → MeansEvent (admitting_in bytes)
    → IsSome (with_units_in Admission bytes)
admission_there bytes known =
    there Admission admits admission_asks bytes (admitting_in bytes) (admits_all bytes) known

pub admission_is : (bytes : List ℕ) → MeansEvent (admitting_in bytes) → (asked : BriefEvent)
    (rest : List ℕ) → with_units_in Admission bytes ≡ Some (asked, rest)
    → option_and_then brief_of (admitting_in bytes) ≡ Some asked
admission_is bytes known asked rest is =
    is_asked Admission admits admission_asks bytes (admitting_in bytes) (admits_all bytes) known
    asked rest is

pub admission_digits : (bytes : List ℕ) (asked : BriefEvent) (rest : List ℕ)
    → with_units_in Admission bytes ≡ Some (asked, rest)
    → admitting_in bytes ≡ admission_of asked rest
admission_digits bytes asked rest is = sym (admits_all bytes) ∙ ap (λ (r : Read). r >>= admits) is

-- an answer
abbrev answers : BriefEvent × List ℕ → Option PlainEvent
answers read = Some (Answering read.0.id (number_of read.0) read.0.units)

answers_all : (bytes : List ℕ)
    → (with_units_in Incoming bytes >>= answers) ≡ answering_event_in bytes
answers_all bytes = of_call Incoming answers (number_in bytes)

answer_asks : (call units : ℕ) (id : List ℕ × List ℕ)
    → Asks Incoming answers (id_then Incoming call units id)
answer_asks call units id known = refl

pub answer_there : (bytes : List ℕ) → MeansEvent (answering_event_in bytes)
    → IsSome (with_units_in Incoming bytes)
answer_there bytes known =
    there Incoming answers answer_asks bytes (answering_event_in bytes) (answers_all bytes) known

pub answer_is : (bytes : List ℕ) → MeansEvent (answering_event_in bytes) → (asked : BriefEvent)
    (rest : List ℕ) → with_units_in Incoming bytes ≡ Some (asked, rest)
    → option_and_then brief_of (answering_event_in bytes) ≡ Some asked
answer_is bytes known asked rest is =
    is_asked Incoming answers answer_asks bytes (answering_event_in bytes) (answers_all bytes)
    known asked rest is

-- a bandwidth change
abbrev changes : BriefEvent × List ℕ → Option PlainEvent
changes read = Some (Changing read.0.id (number_of read.0) read.0.units)

changes_all : (bytes : List ℕ)
    → (with_units_in BandwidthChange bytes >>= changes) ≡ changing_in bytes
changes_all bytes = of_call BandwidthChange changes (number_in bytes)

change_asks : (call units : ℕ) (id : List ℕ × List ℕ)
    → Asks BandwidthChange changes (id_then BandwidthChange call units id)
change_asks call units id known = refl

pub change_there : (bytes : List ℕ) → MeansEvent (changing_in bytes)
    → IsSome (with_units_in BandwidthChange bytes)
change_there bytes known =
    there BandwidthChange changes change_asks bytes (changing_in bytes) (changes_all bytes) known

pub change_is : (bytes : List ℕ) → MeansEvent (changing_in bytes) → (asked : BriefEvent)
    (rest : List ℕ) → with_units_in BandwidthChange bytes ≡ Some (asked, rest)
    → option_and_then brief_of (changing_in bytes) ≡ Some asked
change_is bytes known asked rest is =
    is_asked BandwidthChange changes change_asks bytes (changing_in bytes) (changes_all bytes)
    known asked rest is
