-- What is open along the rows of a record.
use Rattle.std.specs.Prelude.{ℕ, ◌+◌, ◌==◌, Bool, List, [], ◌∷◌, Option, Some, None, if◌then◌else◌}
use Rattle.call_rows.specs.declared.rows.CallEvent.{CallEvent}
use Rattle.call_rows.specs.declared.rows.CallEvent.TheVariants.{Admitted, Answered, Changed, Released}
use Rattle.call_rows.specs.Rows.{RowParts}

-- an open call: its number, its units now, and which admission of the rows it is, from 0
pub record Open : Type 0 where
  pub call : ℕ
  pub units : ℕ
  pub admission : ℕ

-- the open call of a number
abbrev pub open_of : ℕ → List Open → Option Open
open_of call [] = None
open_of call (o ∷ os) = if o.call == call then Some o else open_of call os

-- with other units for the call of a number
abbrev pub with_units : ℕ → ℕ → List Open → List Open
with_units call units [] = []
with_units call units (o ∷ os) =
    if o.call == call then record o { units = units } ∷ os else o ∷ with_units call units os

-- without the call of a number
abbrev pub without : ℕ → List Open → List Open
without call [] = []
without call (o ∷ os) = if o.call == call then os else o ∷ without call os

-- the open calls after an admission, if this many came before it: a granted one is one more
abbrev pub opened_if : (granted : Bool) → Open → List Open → List Open
opened_if granted o opens = if granted then o ∷ opens else opens

-- the open calls after a row
abbrev pub opens_after : ℕ → CallEvent → List Open → List Open
opens_after seen (Admitted a) opens =
    opened_if a.granted (record { call = a.call; units = a.units; admission = seen }) opens
opens_after seen (Answered a) opens =
    opened_if a.granted (record { call = a.call; units = a.units; admission = seen }) opens
opens_after seen (Changed call units) opens = with_units call units opens
opens_after seen (Released call) opens = without call opens

-- how many admissions came before the next row
abbrev pub seen_after : ℕ → CallEvent → ℕ
seen_after seen (Admitted a) = seen + 1
seen_after seen (Answered a) = seen + 1
seen_after seen (Changed call units) = seen
seen_after seen (Released call) = seen

-- the open calls after rows, from those that were open before them
abbrev pub opens_from : List Open → ℕ → List RowParts → List Open
opens_from opens seen [] = opens
opens_from opens seen (r ∷ rs) =
    opens_from (opens_after seen r.event opens) (seen_after seen r.event) rs

abbrev pub opens_of : List RowParts → List Open
opens_of rows = opens_from [] 0 rows

-- the units of the open calls of which a test holds, by the number of their admission
abbrev pub use_of : (ℕ → Bool) → List Open → ℕ
use_of touches [] = 0
use_of touches (o ∷ os) = (if touches o.admission then o.units else 0) + use_of touches os
