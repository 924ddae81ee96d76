-- Whether a row may come next: the faults of rows, in the order in which they are tried; and what
-- comes of a row that is added.
use Rattle.std.specs.Prelude.{◌≡◌, ◌⊎◌, ℕ, ◌-◌, Bool, List, [], ◌∷◌, ◌++◌, length, slice_get, Option, Some, None, Result, MatchResult, nat_le, if◌then◌else◌, is_some, ⊤}
use Rattle.call_rows.specs.declared.rows.CallEvent.{CallEvent}
use Rattle.call_rows.specs.declared.rows.CallEvent.TheVariants.{Admitted, Answered, Changed, Released}
use Rattle.call_rows.specs.declared.snapshots.PushFault.{PushFault}
use Rattle.call_rows.specs.declared.snapshots.PushFault.TheVariants as faults
use Rattle.call_rows.specs.Rows.{RowParts, SnapshotParts}
use Rattle.call_rows.specs.OpenCalls.{Open, open_of, opens_of}

-- how many rows there may be, and how many calls may be open after them
abbrev pub most_rows : ℕ
most_rows = 1000000

abbrev pub most_open : ℕ
most_open = 50000

-- the number of the last row; 0 if there is none
abbrev pub number_in : Option RowParts → ℕ
number_in None = 0
number_in (Some row) = row.number

abbrev pub last_number : List RowParts → ℕ
last_number rows = number_in (slice_get rows (length rows - 1))

abbrev pub is_open : ℕ → List Open → Bool
is_open call opens = is_some (open_of call opens)

-- a granted admission opens a call: none of its number is open, and there is room for one more
abbrev pub opening_fault : ℕ → List Open → Option PushFault
opening_fault call opens =
    if is_open call opens then Some faults.CallOpen
    else (if nat_le most_open (length opens) then Some faults.TooMany else None)

-- a change or a release is about an open call
abbrev pub moving_fault : ℕ → List Open → Option PushFault
moving_fault call opens = if is_open call opens then None else Some faults.NoCall

abbrev pub event_fault : List Open → CallEvent → Option PushFault
event_fault opens (Admitted a) = if a.granted then opening_fault a.call opens else None
event_fault opens (Answered a) = if a.granted then opening_fault a.call opens else None
event_fault opens (Changed call units) = moving_fault call opens
event_fault opens (Released call) = moving_fault call opens

-- the fault of a row that comes after these rows: too many rows, a number that is not greater than
-- the one before, and then what the open calls say
abbrev pub push_fault : List RowParts → RowParts → Option PushFault
push_fault rows row =
    if nat_le most_rows (length rows) then Some faults.TooMany
    else (if nat_le row.number (last_number rows) then Some faults.OutOfOrder
    else event_fault (opens_of rows) row.event)

-- what comes of a row, by its fault: without one it comes after the others, unless memory runs out;
-- after an error nothing has changed
abbrev pub PushesBy : {T : Type 0} → Option PushFault → SnapshotParts → RowParts
    → Result T PushFault → SnapshotParts → Type 0
PushesBy fault old row result new =
    MatchResult result
    (λ _. (fault ≡ None) × (new ≡ record old { rows = old.rows ++ row ∷ [] }))
    (λ f. (new ≡ old) × ((fault ≡ Some f) ⊎ ((f ≡ faults.NoMemory) × (fault ≡ None))))

abbrev pub Pushes : {T : Type 0} → SnapshotParts → RowParts → Result T PushFault → SnapshotParts
    → Type 0
Pushes old row result new = PushesBy (push_fault old.rows row) old row result new

-- each of these rows could be added after those before it; these came first
abbrev pub MayFollow : List RowParts → List RowParts → Type 0
MayFollow before [] = ⊤
MayFollow before (row ∷ rows) =
    (push_fault before row ≡ None) × MayFollow (before ++ row ∷ []) rows
