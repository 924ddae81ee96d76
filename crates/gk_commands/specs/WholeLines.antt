-- Lines of a text, each with its line feed, and what was kept of the lines of a configuration.
use Rattle.std.specs.Prelude.{◌≡◌, ℕ, ⊤, List, [], ◌∷◌, ◌++◌, Option, Some, None, Result, Ok, Err}
use Rattle.gk_terms.specs.Text.{lines_of}
use Rattle.gk_commands.specs.declared.faults.LineFault.{LineFault}
use Rattle.gk_commands.specs.declared.commands.Command.{Command}
use Rattle.gk_commands.specs.Configuration.{Configuration}
use Rattle.gk_commands.specs.Reading.{reading_in}

-- a text that ends at the end of a line: what follows begins a line of its own
abbrev pub EndsALine : List ℕ → Type 0
EndsALine text = (rest : List ℕ) → lines_of (text ++ rest) ≡ lines_of text ++ lines_of rest

-- with a line feed after it, the line is read as it is
abbrev pub ReadsAsLine : List ℕ → Type 0
ReadsAsLine line = (rest : List ℕ) → lines_of ((line ++ 10 ∷ []) ++ rest) ≡ line ∷ lines_of rest

-- the kept lines with one more; or none from now on
abbrev pub KeepsLine : Option (List (List ℕ)) → List ℕ → Option (List (List ℕ)) → Type 0
KeepsLine before line None = ⊤
KeepsLine None line (Some after) = ⊥
KeepsLine (Some before) line (Some after) = after ≡ before ++ line ∷ []

-- the commands of a configuration that was read, or none at a fault
abbrev pub commands_read : Result Configuration LineFault → List Command
commands_read (Ok configuration) = configuration.commands
commands_read (Err fault) = []

-- the commands that these lines say
abbrev pub commands_said : List (List ℕ) → List Command
commands_said lines = commands_read (reading_in lines)
