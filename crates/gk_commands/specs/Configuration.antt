-- What an accepted configuration says.
use Rattle.std.specs.Prelude.{ℕ, List}
use Rattle.gk_commands.specs.declared.commands.Command.{Command}

-- the kept commands in line order, and how many lines were passed over
pub record Configuration : Type 0 where
  pub commands : List Command
  pub passed : ℕ
