-- Lists of generations: the commands of each configuration that was put in force, the opening one
-- first. Version n is the nth. This project's profile.
use Rattle.std.specs.Prelude.{ℕ, ◌-◌, List, [], slice_index_or}
use Rattle.gk_commands.specs.declared.commands.Command.{Command}

-- what a reader knows
pub record Known : Type 0 where
  -- the generations up to the one that it read last
  pub list : List (List Command)
  -- the longest list that it was told of
  pub told : List (List Command)

-- the commands of a version
abbrev pub commands_of : List (List Command) → ℕ → List Command
commands_of generations version = slice_index_or generations (version - 1) []
