-- What has been read of a configuration so far.
use Rattle.std.specs.Prelude.{ℕ, ◌+◌, List, [], ◌∷◌, length, map}
use Rattle.gk_commands.specs.declared.commands.Command.{Command}

-- a command with the number of its line
pub record NumberedCommand : Type 0 where
  pub line : ℕ
  pub command : Command

-- the kept commands with their lines' numbers, in line order, and how many lines were passed over
pub record Progress : Type 0 where
  pub kept : List NumberedCommand
  pub passed : ℕ

-- how many lines there were
abbrev pub line_count : Progress → ℕ
line_count before = length before.kept + before.passed

-- the commands alone
abbrev pub commands_in : Progress → List Command
commands_in read = map (λ n. n.command) read.kept

-- ---- as it is held
-- each command with its number
abbrev pub with_numbers : List ℕ → List Command → List NumberedCommand
with_numbers [] commands = []
with_numbers (number ∷ numbers) [] = []
with_numbers (number ∷ numbers) (command ∷ commands) =
    record { line = number; command = command } ∷ with_numbers numbers commands
