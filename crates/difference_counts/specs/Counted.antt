-- How many dialled digits each set of two configurations has.
use Rattle.std.specs.Prelude.{ℕ, List, map}
use Rattle.std.specs.Map.{keys_of}
use Rattle.gk_commands.specs.declared.commands.Command.{Command}
use Rattle.plan_difference.specs.declared.number_sets.NumberSet.{NumberSet}
use Rattle.plan_difference.specs.Entries.{Entries, same_set}
use Rattle.plan_difference.specs.Sets.{set_of}
use Rattle.difference_counts.specs.Numbers.{how_many}

-- how many dialled digits belong to a set
abbrev pub number_in : (old new : List Command) → NumberSet → ℕ
number_in old new set = how_many (λ digits. same_set (set_of old new digits) set)

-- so for each set of a list
abbrev pub numbers_in : (old new : List Command) → Entries → List ℕ
numbers_in old new entries = map (number_in old new) (keys_of entries)
