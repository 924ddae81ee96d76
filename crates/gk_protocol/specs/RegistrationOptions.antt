-- How src/registrations adds the options of a registration, one word after another. Only the
-- contracts of its private functions need this: what the options mean is in specs/Registrations.
use Rattle.std.specs.Prelude.{◌≡◌, ◌<◌, ℕ, List, [], ◌∷◌, ◌++◌, length, Some, Ok, Err, IsTrue, bytes_eq, if◌then◌else◌}
use Rattle.std.specs.List.{list_any}
use Rattle.gk_terms.specs.declared.limits.TheConstants.{MOST_ALIASES, MOST_TECHNOLOGIES}
use Rattle.registry.specs.Endpoint.{EndpointParts}
use Rattle.gk_protocol.specs.declared.registrations.NoRequest.{NoRequest}
use Rattle.gk_protocol.specs.declared.registrations.NoRequest.TheVariants.{Fault, NoMemory}
use Rattle.gk_protocol.specs.declared.registrations.RegistrationOption.{RegistrationOption}
use Rattle.gk_protocol.specs.declared.registrations.RegistrationOption.TheVariants.{Alias, Technology}
use Rattle.gk_protocol.specs.Registrations.{with_options_at, begins_with_option, registration_at, registering_at}

-- ---- one option
-- an endpoint to which no option has been added
pub record IsBare (endpoint : EndpointParts) : Type 0 where
  pub aliases : endpoint.aliases ≡ []
  pub technologies : endpoint.technologies ≡ []

-- an endpoint to which such an option can be added
abbrev pub HasRoomFor : EndpointParts → RegistrationOption → Type 0
HasRoomFor endpoint (Alias digits) = length endpoint.aliases < MOST_ALIASES
HasRoomFor endpoint (Technology prefix) = length endpoint.technologies < MOST_TECHNOLOGIES

-- a text after the others, unless it is one of them
abbrev pub with_text : List (List ℕ) → List ℕ → List (List ℕ)
with_text texts text = if list_any (bytes_eq text) texts then texts else texts ++ text ∷ []

-- the endpoint with one more option
abbrev pub with_registration_option : EndpointParts → RegistrationOption → EndpointParts
with_registration_option endpoint (Alias digits) =
    record endpoint { aliases = with_text endpoint.aliases digits }
with_registration_option endpoint (Technology prefix) =
    record endpoint { technologies = with_text endpoint.technologies prefix }

-- ---- all of them
-- reading stopped at one of these words: those before it are options, and the endpoint has these
-- and no others
pub record HasFrontOf (bare : EndpointParts) (words : List (List ℕ)) (endpoint : EndpointParts)
    : Type 0 where
  pub front : List (List ℕ)
  pub word : List ℕ
  pub rest : List (List ℕ)
  pub split : words ≡ front ++ word ∷ rest
  pub added : with_options_at bare front ≡ Ok endpoint

-- why the options of a registration with this sequence number and ID cannot be read: the first
-- fault, or memory ran out
abbrev pub AreNoOptionsAt : ℕ → EndpointParts → List (List ℕ) → NoRequest → Type 0
AreNoOptionsAt sequence endpoint words (Fault fault) = with_options_at endpoint words ≡ Err fault
AreNoOptionsAt sequence endpoint words (NoMemory number id) =
    (number ≡ sequence) × (id ≡ endpoint.id) × IsTrue (begins_with_option words)

-- why the words after RRQ are no registration: the first fault, or memory ran out
abbrev pub IsNoRegistrationAt : List (List ℕ) → NoRequest → Type 0
IsNoRegistrationAt words (Fault fault) = registration_at words ≡ Err fault
IsNoRegistrationAt words (NoMemory sequence id) = registering_at words ≡ Some (sequence, id)
