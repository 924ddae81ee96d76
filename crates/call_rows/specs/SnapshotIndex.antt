-- How a snapshot holds its rows. A reader of the contracts need not know it.
use Rattle.std.specs.Prelude.{◌≡◌, ℕ, true, Bool, List, length, map, filter_map, slice_get, nat_eq, Option, Some, None, option_map, is_none, if◌then◌else◌, ◌&&◌, [], ◌∷◌}
use Rattle.std.specs.List.{list_all}
use Rattle.std.specs.Map.{lookup}
use Rattle.call_rows.specs.declared.rows.AskedCall.{AskedCall}
use Rattle.call_rows.specs.declared.rows.NumberedAdmission.{NumberedAdmission}
use Rattle.call_rows.specs.declared.rows.CallEvent.{CallEvent}
use Rattle.call_rows.specs.declared.rows.CallEvent.TheVariants as events
use Rattle.call_rows.specs.declared.open_at.OpenAt.{OpenAt}
use Rattle.call_rows.specs.declared.steps.Step.{Step}
use Rattle.call_rows.specs.declared.steps.StepKind.{StepKind}
use Rattle.call_rows.specs.declared.steps.StepKind.TheVariants.{Admitted, Changed, Released}
use Rattle.call_rows.specs.Moves.{move_in, moves_of}
use Rattle.call_rows.specs.OpenCalls.{Open, open_of, opens_of}
use Rattle.call_rows.specs.Pushing.{MayFollow}
use Rattle.call_rows.specs.Rows.{RowParts, admissions_of, is_row, said_by}

-- what the index has of an open call
abbrev pub open_at : Open → OpenAt
open_at o = record { admission = o.admission; units = o.units }

-- ---- rows from steps
-- what a step says, by its kind, of the call of an admission
abbrev pub event_by : StepKind → (units : ℕ) → AskedCall → CallEvent
event_by Admitted units a = said_by a
event_by Changed units a = events.Changed a.call units
event_by Released units a = events.Released a.call

abbrev pub row_by : Step → NumberedAdmission → RowParts
row_by s a = record { number = s.number; event = event_by s.kind s.gained a.asked }

-- the row of a step, beside the admissions
abbrev pub row_told : List NumberedAdmission → Step → Option RowParts
row_told admissions s = option_map (row_by s) (slice_get admissions s.admission)

abbrev pub rows_told : List NumberedAdmission → List Step → List RowParts
rows_told admissions steps = filter_map (row_told admissions) steps

-- the number of the call of an admission
abbrev pub call_asked : List NumberedAdmission → ℕ → Option ℕ
call_asked admissions place = option_map (λ a. a.asked.call) (slice_get admissions place)

-- no two open calls have one number
abbrev pub are_different : List Open → Bool
are_different [] = true
are_different (o ∷ os) = is_none (open_of o.call os) && are_different os

-- the steps say these rows, and the admissions and the index of the open calls are those of the
-- rows
pub record IsKept (admissions : List NumberedAdmission) (steps : List Step)
    (calls : List (ℕ × OpenAt)) (rows : List RowParts) : Type 0 where
  pub told : map (row_told admissions) steps ≡ map Some rows
  pub sound : list_all is_row rows ≡ true
  pub in_order : MayFollow [] rows
  pub admitted : admissions ≡ admissions_of rows
  pub moves : map move_in steps ≡ moves_of rows
  pub found :
      (call : ℕ)
      → lookup (nat_eq call) calls ≡ option_map open_at (open_of call (opens_of rows))
  pub asked :
      (call : ℕ) (at : OpenAt) → lookup (nat_eq call) calls ≡ Some at
      → call_asked admissions at.admission ≡ Some call
  pub different : are_different (opens_of rows) ≡ true
  pub as_many : length calls ≡ length (opens_of rows)

-- ---- rows that are given back
-- if it is one
abbrev pub if_row : RowParts → Option RowParts
if_row row = if is_row row then Some row else None
