-- How many digits the sets that have changed have together.
use Rattle.std.specs.Prelude.{ℕ, List, if◌then◌else◌}
use Rattle.gk_commands.specs.declared.commands.Command.{Command}
use Rattle.plan_difference.specs.Entries.{Entry, Entries, has_set}
use Rattle.difference_counts.specs.Counted.{number_in}

-- how many digits a set has, if it is one of those that have changed; else none
abbrev pub number_if : (old new : List Command) → (changed : Entries) → Entry → ℕ
number_if old new changed entry =
    if has_set changed entry.0 then number_in old new entry.0 else 0
