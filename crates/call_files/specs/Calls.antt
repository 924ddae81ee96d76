-- What a call file says, and what is read of it.
use Rattle.std.specs.Prelude.{◌≡◌, ◌⊎◌, ◌+◌, ◌++◌, ℕ, true, false, List, [], ◌∷◌, length, nat_le, flat_map, Option, Some, None, Result, Ok, Err, if◌then◌else◌}
use Rattle.csv.specs.Reading.{AreRecords, Reached, default_config, strip_bom}
use Rattle.csv.specs.Writing.{default_writer, row_text}
use Rattle.csv.specs.declared.parser.State.{State}
use Rattle.csv.specs.declared.parser.State.TheVariants as st
use Rattle.call_rows.specs.Rows.{RowParts, SnapshotParts}
use Rattle.call_rows.specs.Pushing.{most_rows, push_fault}
use Rattle.call_rows.specs.declared.snapshots.PushFault.{PushFault}
use Rattle.call_rows.specs.declared.snapshots.PushFault.TheVariants as faults
use Rattle.call_files.specs.Rows.{fields_said, header, is_header, row_in}
use Rattle.call_files.specs.declared.faults.CallsFault.{CallsFault}
use Rattle.call_files.specs.declared.faults.CallsFaultKind.{CallsFaultKind}
use Rattle.call_files.specs.declared.faults.CallsFaultKind.TheVariants as kinds

-- ---- as it is written
abbrev pub row_said : RowParts → List ℕ
row_said row = row_text default_writer (fields_said row)

abbrev pub rows_said : List RowParts → List ℕ
rows_said rows = flat_map row_said rows

-- the text of a call file: the header, and the rows
abbrev pub calls_text : List RowParts → List ℕ
calls_text rows = row_text default_writer header ++ rows_said rows

-- ---- as it is read
abbrev pub kind_of : PushFault → CallsFaultKind
kind_of faults.OutOfOrder = kinds.OutOfOrder
kind_of faults.CallOpen = kinds.CallOpen
kind_of faults.NoCall = kinds.NoCall
kind_of faults.TooMany = kinds.TooMany
kind_of faults.NoMemory = kinds.NoMemory

-- a fault of the next row, which is counted from 1
abbrev pub refused : List RowParts → CallsFaultKind → Result (List RowParts) CallsFault
refused rows kind = Err (record { row = length rows + 1; kind = kind })

-- the rows with one more, unless it has this fault
abbrev pub row_unless : Option PushFault → List RowParts → RowParts
    → Result (List RowParts) CallsFault
row_unless None rows row = Ok (rows ++ row ∷ [])
row_unless (Some fault) rows row = refused rows (kind_of fault)

abbrev pub with_row : List RowParts → RowParts → Result (List RowParts) CallsFault
with_row rows row = row_unless (push_fault rows row) rows row

-- the rows with that of one more record
abbrev pub with_fields : List RowParts → Result RowParts CallsFaultKind
    → Result (List RowParts) CallsFault
with_fields rows (Ok row) = with_row rows row
with_fields rows (Err kind) = refused rows kind

-- the count of rows is tried first
abbrev pub with_record : List RowParts → List (List ℕ) → Result (List RowParts) CallsFault
with_record rows fields =
    if nat_le most_rows (length rows) then refused rows kinds.TooMany
    else with_fields rows (row_in fields)

-- the rows of records, in order, after those before them; or the first fault
abbrev pub said : Result (List RowParts) CallsFault → List (List (List ℕ))
    → Result (List RowParts) CallsFault
said rows [] = rows
said (Err fault) (r ∷ rs) = Err fault
said (Ok rows) (r ∷ rs) = said (with_record rows r) rs

-- why a row is not added: its first fault; or out of memory, if it has none
abbrev pub MayRefuseRow : List RowParts → Result (List RowParts) CallsFault → CallsFault → Type 0
MayRefuseRow rows right fault =
    (right ≡ Err fault)
    ⊎ ((fault ≡ record { row = length rows + 1; kind = kinds.NoMemory })
    × ((more : List RowParts) × (right ≡ Ok more)))

-- the text begins with these records, without a byte order mark; then this is left
abbrev pub Begins : List ℕ → List (List (List ℕ)) → State → List ℕ → Type 0
Begins text records s rest = Reached default_config st.StartRecord (strip_bom text) records s rest

-- the text has these records, and no more
abbrev pub HasRecords : List ℕ → List (List (List ℕ)) → Type 0
HasRecords text records =
    AreRecords default_config st.StartRecord (strip_bom text) records

-- the text has these records, and maybe more
abbrev pub HasFirstRecords : List ℕ → List (List (List ℕ)) → Type 0
HasFirstRecords text records = (s : State) × (rest : List ℕ) × Begins text records s rest

-- the text has no record, or its first one is not the header
abbrev pub LacksHeader : List ℕ → Type 0
LacksHeader text =
    HasRecords text []
    ⊎ ((names : List (List ℕ)) × HasFirstRecords text (names ∷ []) × (is_header names ≡ false))

-- the first record is the header, and those after it say these rows
abbrev pub SaysRows : List ℕ → List RowParts → Type 0
SaysRows text rows =
    (names : List (List ℕ)) × (records : List (List (List ℕ))) × HasRecords text (names ∷ records)
    × (is_header names ≡ true) × (said (Ok []) records ≡ Ok rows)

-- the first record is the header, and those after it have this fault, the first one
abbrev pub HasFault : List ℕ → CallsFault → Type 0
HasFault text fault =
    (names : List (List ℕ)) × (records : List (List (List ℕ)))
    × HasFirstRecords text (names ∷ records)
    × (is_header names ≡ true) × (said (Ok []) records ≡ Err fault)

-- the first record is the header, and those after it, up to some place, say these rows
abbrev pub SaysFirstRows : List ℕ → List RowParts → Type 0
SaysFirstRows text rows =
    (names : List (List ℕ)) × (records : List (List (List ℕ)))
    × HasFirstRecords text (names ∷ records)
    × (is_header names ≡ true) × (said (Ok []) records ≡ Ok rows)

-- where memory may run out: at the header, or after the header and these rows, which have no fault:
-- at the next record, whatever it says, or where there is no other
abbrev pub LacksMemory : List ℕ → ℕ → Type 0
LacksMemory text row =
    (row ≡ 0) ⊎ ((rows : List RowParts) × SaysFirstRows text rows × (row ≡ length rows + 1))

-- what reading a text may answer: its rows, and no endpoint; or its first fault; or that memory
-- ran out, with no fault before that row
abbrev pub ReadsCalls : List ℕ → Result SnapshotParts CallsFault → Type 0
ReadsCalls text (Ok snapshot) = SaysRows text snapshot.rows × (snapshot.endpoints ≡ [])
ReadsCalls text (Err fault) =
    ((fault.kind ≡ kinds.NoMemory) × LacksMemory text fault.row)
    ⊎ ((fault ≡ record { row = 0; kind = kinds.BadHeader }) × LacksHeader text)
    ⊎ HasFault text fault
