-- What each row changes of the bandwidth in use, and of which admission.
use Rattle.std.specs.Prelude.{ℕ, ◌≤◌, ◌+◌, ◌-◌, Bool, List, [], ◌∷◌, Option, Some, None, if◌then◌else◌, ⊤}
use Rattle.call_rows.specs.declared.rows.CallEvent.{CallEvent}
use Rattle.call_rows.specs.declared.rows.CallEvent.TheVariants.{Admitted, Answered, Changed, Released}
use Rattle.call_rows.specs.declared.steps.Step.{Step}
use Rattle.call_rows.specs.Rows.{RowParts}
use Rattle.call_rows.specs.OpenCalls.{Open, open_of, opens_after, seen_after}

-- which admission a row is about, from 0, and how many units it adds to its call and takes from it
pub record Move : Type 0 where
  pub admission : ℕ
  pub gained : ℕ
  pub lost : ℕ

-- what a step says of it
abbrev pub move_in : Step → Move
move_in s = record { admission = s.admission; gained = s.gained; lost = s.lost }

-- a row about a call that is not open
abbrev pub no_move : Move
no_move = record { admission = 0; gained = 0; lost = 0 }

-- other units for an open call
abbrev pub moved : ℕ → Option Open → Move
moved units None = no_move
moved units (Some o) = record { admission = o.admission; gained = units; lost = o.units }

-- the units of an admission, if it was granted
abbrev pub admitted_move : ℕ → (granted : Bool) → ℕ → Move
admitted_move seen granted units =
    record { admission = seen; gained = if granted then units else 0; lost = 0 }

abbrev pub move_of : ℕ → List Open → CallEvent → Move
move_of seen opens (Admitted a) = admitted_move seen a.granted a.units
move_of seen opens (Answered a) = admitted_move seen a.granted a.units
move_of seen opens (Changed call units) = moved units (open_of call opens)
move_of seen opens (Released call) = moved 0 (open_of call opens)

abbrev pub moves_from : List Open → ℕ → List RowParts → List Move
moves_from opens seen [] = []
moves_from opens seen (r ∷ rs) =
    move_of seen opens r.event
    ∷ moves_from (opens_after seen r.event opens) (seen_after seen r.event) rs

abbrev pub moves_of : List RowParts → List Move
moves_of rows = moves_from [] 0 rows

-- ---- the moves of the admissions of which a test holds
-- what a move adds
abbrev pub gain : (ℕ → Bool) → Move → ℕ
gain touches m = if touches m.admission then m.gained else 0

-- what it takes
abbrev pub loss : (ℕ → Bool) → Move → ℕ
loss touches m = if touches m.admission then m.lost else 0

-- no move takes more than there is, from this level on
abbrev pub IsSound : (ℕ → Bool) → (level : ℕ) → List Move → Type 0
IsSound touches level [] = ⊤
IsSound touches level (m ∷ ms) =
    (loss touches m ≤ level + gain touches m)
    × IsSound touches (level + gain touches m - loss touches m) ms
