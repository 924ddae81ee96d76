-- What every record says of its rows, whatever was asked.
use Rattle.std.specs.Prelude.{◌≡◌, ℕ, ◌-◌, true, List, take, Some, None}
use Rattle.gk_commands.specs.declared.commands.Command.{Command}
use Rattle.call_rows.specs.Rows.{RowParts}
use Rattle.call_rows.specs.Pushing.{push_fault}
use Rattle.rulings.specs.declared.limits.Limits.{Limits}
use Rattle.rulings.specs.Limits.{are_limits}
use Rattle.rulings.specs.State.{opening_of}
use Rattle.entry_bytes.specs.Entry.{PlainEntry}
use Rattle.decision_record.specs.History.{entry_of_number, IsLegal}
use Rattle.decision_record.specs.Rows.{entry_row, rows_of}

-- under limits in their ranges: the row of each entry of a record may be put after the rows of
-- those before it
abbrev pub RowsAreNeverRefused : Type 0
RowsAreNeverRefused =
    (commands : List Command) (limits : Limits) (entries : List PlainEntry) (number : ℕ)
    (e : PlainEntry) (row : RowParts)
    → are_limits limits ≡ true
    → IsLegal (opening_of commands limits) entries
    → entry_of_number entries number ≡ Some e
    → entry_row number e ≡ Some row
    → push_fault (rows_of (opening_of commands limits) (take (number - 1) entries)) row ≡ None
