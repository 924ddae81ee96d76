-- Whether a gateway has the same priority in two configurations, as a test.
use Rattle.std.specs.Prelude.{ℕ, ◌==◌, Bool, List, Option, None, unwrap_or}
use Rattle.gk_commands.specs.declared.commands.Command.{Command}
use Rattle.compiler.specs.Plan.{row_meant}
use Rattle.compiler.specs.Priority.{priority_of}
use Rattle.compiler.specs.Rows.{ZoneRow}

-- the row of a number; none if the number is out of range
abbrev pub row_in : List Command → Option ℕ → Option ZoneRow
row_in commands number = unwrap_or (row_meant commands number) None

-- whether a gateway has the same priority for two rows
abbrev pub has_same_priority : List Command → Option ZoneRow → List Command → Option ZoneRow
    → List ℕ → Bool
has_same_priority old row new other gateway =
    priority_of old row gateway == priority_of new other gateway
