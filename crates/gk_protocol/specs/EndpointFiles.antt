-- A file of endpoints: lines RRQ, which register one after another under some commands.
use Rattle.std.specs.Prelude.{◌≡◌, ◌⊎◌, ℕ, ◌+◌, min, true, List, [], ◌∷◌, ◌++◌, length, Option, Some, None, Result, Ok, Err, IsSome, is_ok, codes, bytes_eq, if◌then◌else◌}
use Rattle.gk_terms.specs.Text.{words_of, is_too_long}
use Rattle.gk_terms.specs.declared.limits.TheConstants.{MOST_ENDPOINTS}
use Rattle.gk_commands.specs.declared.commands.Command.{Command}
use Rattle.gk_commands.specs.Line.{is_remark}
use Rattle.registry.specs.declared.faults.RegistryFault.{RegistryFault}
use Rattle.registry.specs.declared.faults.RegistryFault.TheVariants as registry
use Rattle.registry.specs.Endpoint.{EndpointParts}
use Rattle.registry.specs.Registration.{RegistryParts, registered_in}
use Rattle.gk_protocol.specs.declared.request_faults.RequestFault.{RequestFault}
use Rattle.gk_protocol.specs.declared.registrations.NoRequest.{NoRequest}
use Rattle.gk_protocol.specs.declared.registrations.NoRequest.TheVariants as none
use Rattle.gk_protocol.specs.declared.endpoint_files.EndpointsFault.{EndpointsFault}
use Rattle.gk_protocol.specs.declared.endpoint_files.EndpointsFaultKind.{EndpointsFaultKind}
use Rattle.gk_protocol.specs.declared.endpoint_files.EndpointsFaultKind.TheVariants.{BadLine, DuplicateAlias, TooMany, NoMemory}
use Rattle.gk_protocol.specs.Registrations.{registration_at, registering_of}

-- ---- what a line says
-- an endpoint, if the line is a registration
abbrev pub endpoint_read : Result (ℕ × EndpointParts) RequestFault
    → Result (Option EndpointParts) EndpointsFaultKind
endpoint_read (Ok fields) = Ok (Some fields.1)
endpoint_read (Err fault) = Err BadLine

-- the words of a line: nothing if there is none, or the first begins with an exclamation mark
abbrev pub endpoint_in_words : List (List ℕ) → Result (Option EndpointParts) EndpointsFaultKind
endpoint_in_words [] = Ok None
endpoint_in_words (word ∷ words) =
    if is_remark word then Ok None
    else (if bytes_eq word (codes "RRQ") then endpoint_read (registration_at words)
    else Err BadLine)

-- the endpoint that a line registers, if it is not passed over
unfoldable pub endpoint_in : List ℕ → Result (Option EndpointParts) EndpointsFaultKind
endpoint_in line = if is_too_long line then Err BadLine else endpoint_in_words (words_of line)

-- ---- what a line changes
-- why the file is refused, if a registration is; one whose zone is not local is passed over
abbrev pub kind_of_refusal : RegistryFault → Option EndpointsFaultKind
kind_of_refusal registry.UnknownZone = None
kind_of_refusal (registry.DuplicateAlias which) = Some DuplicateAlias
kind_of_refusal registry.TooMany = Some TooMany
kind_of_refusal registry.NoMemory = Some NoMemory
kind_of_refusal registry.NotRegistered = None

abbrev pub unless_refused : RegistryParts → Option EndpointsFaultKind
    → Result RegistryParts EndpointsFaultKind
unless_refused r None = Ok r
unless_refused r (Some kind) = Err kind

abbrev pub registered_or_passed : RegistryParts → Result RegistryParts RegistryFault
    → Result RegistryParts EndpointsFaultKind
registered_or_passed r (Ok new) = Ok new
registered_or_passed r (Err fault) = unless_refused r (kind_of_refusal fault)

-- the endpoints after one more registration
abbrev pub endpoint_added : List Command → RegistryParts → EndpointParts
    → Result RegistryParts EndpointsFaultKind
endpoint_added commands r e = registered_or_passed r (registered_in commands r e)

-- after what a line says
abbrev pub said_added : List Command → RegistryParts
    → Result (Option EndpointParts) EndpointsFaultKind → Result RegistryParts EndpointsFaultKind
said_added commands r (Err kind) = Err kind
said_added commands r (Ok None) = Ok r
said_added commands r (Ok (Some e)) = endpoint_added commands r e

-- after a line
abbrev pub line_added : List Command → RegistryParts → List ℕ
    → Result RegistryParts EndpointsFaultKind
line_added commands r line = said_added commands r (endpoint_in line)

-- ---- the whole
-- the number of the line after so many: lines are counted from 1, and each after the
-- 4,294,967,295th has that number
abbrev pub number_after : ℕ → ℕ
number_after passed = min (passed + 1) 4294967295

-- a fault of the line after so many
abbrev pub fault_after : ℕ → EndpointsFaultKind → EndpointsFault
fault_after passed kind = record { line = number_after passed; kind = kind }

-- the rest is read if the line after so many has no fault
abbrev pub added_then : ℕ → (RegistryParts → Result RegistryParts EndpointsFault)
    → Result RegistryParts EndpointsFaultKind → Result RegistryParts EndpointsFault
added_then passed rest (Ok r) = rest r
added_then passed rest (Err kind) = Err (fault_after passed kind)

-- the lines one after another, after so many others, up to the first faulty one
abbrev pub lines_added : List Command → ℕ → RegistryParts → List (List ℕ)
    → Result RegistryParts EndpointsFault
lines_added commands passed r [] = Ok r
lines_added commands passed r (line ∷ lines) =
    added_then passed (λ new. lines_added commands (passed + 1) new lines)
    (line_added commands r line)

-- no endpoints
abbrev pub no_endpoints : RegistryParts
no_endpoints = record { endpoints = []; most = MOST_ENDPOINTS }

-- the endpoints of a file, or its first fault
abbrev pub endpoints_in : List Command → List (List ℕ) → Result RegistryParts EndpointsFault
endpoints_in commands lines = lines_added commands 0 no_endpoints lines

-- ---- out of memory
-- the endpoint may register, if memory lasts
abbrev pub MayRegister : List Command → RegistryParts → EndpointParts → Type 0
MayRegister commands r e = is_ok (registered_in commands r e) ≡ true

-- memory may run out at a line whose first option could be read; or at one without a fault, which
-- registers an endpoint
abbrev pub MayLackMemory : List Command → RegistryParts → List ℕ → Type 0
MayLackMemory commands r line =
    IsSome (registering_of line)
    ⊎ ((e : EndpointParts) × (endpoint_in line ≡ Ok (Some e)) × MayRegister commands r e)

-- memory ran out at one of these lines, as the fault says; those before it have no fault
pub record LacksMemory (commands : List Command) (lines : List (List ℕ)) (fault : EndpointsFault)
    : Type 0 where
  pub front : List (List ℕ)
  pub line : List ℕ
  pub rest : List (List ℕ)
  pub split : lines ≡ front ++ line ∷ rest
  pub before : RegistryParts
  pub read : endpoints_in commands front ≡ Ok before
  pub lacks : MayLackMemory commands before line
  pub is : fault ≡ fault_after (length front) NoMemory

-- what may be answered of a file: its endpoints; its first fault; or that memory ran out at a line
-- before that
abbrev pub ReadsEndpoints : List Command → List (List ℕ) → Result RegistryParts EndpointsFault
    → Type 0
ReadsEndpoints commands lines (Ok r) = endpoints_in commands lines ≡ Ok r
ReadsEndpoints commands lines (Err fault) =
    (endpoints_in commands lines ≡ Err fault) ⊎ LacksMemory commands lines fault

-- ---- one line, as src/endpoint_files takes it
-- just what is right; or that memory ran out, if it may
abbrev pub GivesUnlessMemory : {A : Type 0} → Type 0 → Result A EndpointsFaultKind
    → Result A EndpointsFaultKind → Type 0
GivesUnlessMemory may_lack right (Ok x) = right ≡ Ok x
GivesUnlessMemory may_lack right (Err kind) = (right ≡ Err kind) ⊎ ((kind ≡ NoMemory) × may_lack)

-- why the words after RRQ register no endpoint
abbrev pub kind_without_request : NoRequest → EndpointsFaultKind
kind_without_request (none.Fault fault) = BadLine
kind_without_request (none.NoMemory sequence id) = NoMemory

-- the endpoints after what was added; or the fault, or memory ran out, if it may
abbrev pub AddsUnlessMemory : {A : Type 0} → Type 0 → Result RegistryParts EndpointsFaultKind
    → RegistryParts → Result A EndpointsFaultKind → Type 0
AddsUnlessMemory may_lack right new (Ok done) = right ≡ Ok new
AddsUnlessMemory may_lack right new (Err kind) =
    (right ≡ Err kind) ⊎ ((kind ≡ NoMemory) × may_lack)

-- the same, and the fault is that of this line
abbrev pub AddsAtLine : {A : Type 0} → ℕ → Type 0 → Result RegistryParts EndpointsFaultKind
    → RegistryParts → Result A EndpointsFault → Type 0
AddsAtLine line may_lack right new (Ok done) = right ≡ Ok new
AddsAtLine line may_lack right new (Err fault) =
    (fault.line ≡ line)
    × ((right ≡ Err fault.kind) ⊎ ((fault.kind ≡ NoMemory) × may_lack))

-- a registration that is refused is passed over, or its fault is given
abbrev pub PassesUnless : {A : Type 0} → Option EndpointsFaultKind → Result A EndpointsFaultKind
    → Type 0
PassesUnless refusal (Ok done) = refusal ≡ None
PassesUnless refusal (Err kind) = refusal ≡ Some kind
