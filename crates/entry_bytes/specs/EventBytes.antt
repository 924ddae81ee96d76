-- An event as bytes, which are the last ones of an entry: its kind in one byte, and what it names.
use Rattle.std.specs.Prelude.{ℕ, ◌<◌, ◌^◌, ◌==◌, List, [], ◌∷◌, ◌++◌, Option, Some, None, if◌then◌else◌}
use Rattle.gk_terms.specs.Dialled.{IsDialled}
use Rattle.gk_terms.specs.Name.{IsName}
use Rattle.rulings.specs.Events.{PlainEvent, Registering, Unregistering, Admitting, Answering, Changing, Releasing, Reloading}
use Rattle.field_bytes.specs.Fields.{◌>>=◌, IsAddress, byte_in, dialled_in, name_in, number_bytes, number_in, text_bytes}
use Rattle.entry_bytes.specs.EndpointBytes.{endpoint_bytes, endpoint_in}

-- a reload has none: it is recorded elsewhere
abbrev pub event_bytes : PlainEvent → List ℕ
event_bytes (Registering endpoint) = 0 ∷ endpoint_bytes endpoint
event_bytes (Unregistering id) = 1 ∷ text_bytes id
event_bytes (Admitting id call digits units) =
    (2 ∷ number_bytes call) ++ number_bytes units ++ text_bytes id ++ text_bytes digits
event_bytes (Answering id call units) =
    (3 ∷ number_bytes call) ++ number_bytes units ++ text_bytes id
event_bytes (Changing id call units) =
    (4 ∷ number_bytes call) ++ number_bytes units ++ text_bytes id
event_bytes (Releasing id call) = (5 ∷ number_bytes call) ++ text_bytes id
event_bytes (Reloading commands) = []

-- ---- reading
abbrev pub registering_in : List ℕ → Option PlainEvent
registering_in bytes = endpoint_in bytes >>= λ endpoint. Some (Registering endpoint)

abbrev pub unregistering_in : List ℕ → Option PlainEvent
unregistering_in bytes = name_in bytes >>= λ id. Some (Unregistering id.0)

abbrev pub admitting_in : List ℕ → Option PlainEvent
admitting_in bytes = do
  call ← number_in bytes
  units ← number_in call.1
  id ← name_in units.1
  digits ← dialled_in id.1
  Some (Admitting id.0 call.0 digits.0 units.0)

abbrev pub answering_event_in : List ℕ → Option PlainEvent
answering_event_in bytes = do
  call ← number_in bytes
  units ← number_in call.1
  id ← name_in units.1
  Some (Answering id.0 call.0 units.0)

abbrev pub changing_in : List ℕ → Option PlainEvent
changing_in bytes = do
  call ← number_in bytes
  units ← number_in call.1
  id ← name_in units.1
  Some (Changing id.0 call.0 units.0)

abbrev pub releasing_in : List ℕ → Option PlainEvent
releasing_in bytes = do
  call ← number_in bytes
  id ← name_in call.1
  Some (Releasing id.0 call.0)

unfoldable pub event_at : ℕ → List ℕ → Option PlainEvent
event_at code bytes =
    if code == 0 then registering_in bytes
    else if code == 1 then unregistering_in bytes
    else if code == 2 then admitting_in bytes
    else if code == 3 then answering_event_in bytes
    else if code == 4 then changing_in bytes
    else if code == 5 then releasing_in bytes
    else None

unfoldable pub event_in : List ℕ → Option PlainEvent
event_in bytes = byte_in bytes >>= λ code. event_at code.0 code.1

-- ---- as every event but a reload is
abbrev pub IsEvent : PlainEvent → Type 0
IsEvent (Registering endpoint) = IsAddress endpoint.address
IsEvent (Unregistering id) = IsName id
IsEvent (Admitting id call digits units) =
    IsName id × (call < 2 ^ 32) × IsDialled digits × (units < 2 ^ 32)
IsEvent (Answering id call units) = IsName id × (call < 2 ^ 32) × (units < 2 ^ 32)
IsEvent (Changing id call units) = IsName id × (call < 2 ^ 32) × (units < 2 ^ 32)
IsEvent (Releasing id call) = IsName id × (call < 2 ^ 32)
IsEvent (Reloading commands) = ⊥
