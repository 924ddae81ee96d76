-- What the items of a log say of calls, if the reloads are not at hand. A reader of the contracts
-- need not know it.
use Rattle.std.specs.Prelude.{◌≡◌, ℕ, ◌-◌, ◌==◌, false, List, length, slice_get, Option, None, IfSome, if◌then◌else◌}
use Rattle.std.specs.Option.{option_and_then}
use Rattle.call_rows.specs.Rows.{RowParts}
use Rattle.field_bytes.specs.Fields.{◌>>=◌, byte_in}
use Rattle.entry_bytes.specs.Entry.{PlainEntry}
use Rattle.entry_bytes.specs.EntryBytes.{entry_in}
use Rattle.decision_record.specs.History.{entry_of_number}
use Rattle.decision_record.specs.Items.{MeansEntry}
use Rattle.decision_record.specs.Rows.{entry_row}

-- the row of the entry that an item is: none of a reload, whose item begins with 255
abbrev pub item_row : (number : ℕ) → List ℕ → Option RowParts
item_row number bytes =
    byte_in bytes >>= λ first.
    if first.0 == 255 then None else option_and_then (entry_row number) (entry_in bytes)

-- an item that is not that of a reload is an entry, whose endpoint is whole
abbrev pub IsRightItem : List ℕ → Type 0
IsRightItem bytes =
    IfSome (byte_in bytes) (λ first. (first.0 == 255) ≡ false → MeansEntry (entry_in bytes))

-- the row of the item of this number, counted from 1
abbrev pub numbered_row : List (List ℕ) → (number : ℕ) → Option RowParts
numbered_row items number =
    if number == 0 then None
    else option_and_then (item_row number) (slice_get items (number - 1))

-- there is an item for each of these entries, which has its row
pub record HasRows (items : List (List ℕ)) (entries : List PlainEntry) : Type 0 where
  pub counted : length items ≡ length entries
  pub right : (place : ℕ) → IfSome (slice_get items place) IsRightItem
  pub rows : (number : ℕ)
      → numbered_row items number ≡ option_and_then (entry_row number) (entry_of_number entries number)
