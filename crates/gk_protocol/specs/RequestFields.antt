-- The fields that only requests have.
use Rattle.std.specs.Prelude.{◌≡◌, ℕ, List, Option, Some, None, Result, Ok, Err, codes, bytes_eq, if◌then◌else◌}
use Rattle.gk_terms.specs.Fields.{field}
use Rattle.gk_terms.specs.Number.{number_of}
use Rattle.gk_terms.specs.declared.limits.TheConstants.{MOST_LINES, MOST_SEQUENCE}
use Rattle.registry.specs.declared.endpoints.EndpointKind.{EndpointKind}
use Rattle.registry.specs.declared.endpoints.EndpointKind.TheVariants.{Gateway, Terminal}
use Rattle.gk_protocol.specs.declared.request_faults.RequestFault.{RequestFault}
use Rattle.gk_protocol.specs.declared.request_faults.RequestFault.TheVariants as fault

abbrev pub sequence_number_of : List ℕ → Option ℕ
sequence_number_of text = number_of 1 MOST_SEQUENCE text

abbrev pub asked_call_of : List ℕ → Option ℕ
asked_call_of text = number_of 1 4294967295 text

-- bandwidth, in units of 100 bit/s
abbrev pub asked_units_of : List ℕ → Option ℕ
asked_units_of text = number_of 0 4294967295 text

-- a count of lines
abbrev pub owned_count_of : List ℕ → Option ℕ
owned_count_of text = number_of 0 MOST_LINES text

-- a count of workers that is asked for
abbrev pub asked_workers_of : List ℕ → Option ℕ
asked_workers_of text = number_of 0 65535 text

abbrev pub endpoint_kind_of : List ℕ → Option EndpointKind
endpoint_kind_of word =
    if bytes_eq word (codes "GW") then Some Gateway
    else (if bytes_eq word (codes "TERM") then Some Terminal else None)

-- the first word as a field, with the words after it
abbrev pub field_at : {A : Type 0} → (List ℕ → Option A) → RequestFault → List (List ℕ)
    → Result (A × List (List ℕ)) RequestFault
field_at read bad words = field fault.Missing read bad words

-- what a reader of a request gives: the fields of which this makes what was read; or the first fault
abbrev pub Reads : {A B : Type 0} → Result A RequestFault → (B → A) → Result B RequestFault → Type 0
Reads read made (Ok fields) = read ≡ Ok (made fields)
Reads read made (Err fault) = read ≡ Err fault
