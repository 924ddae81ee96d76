-- What is kept of the lines of a configuration, as one more is read.
use Rattle.std.specs.Prelude.{◌≡◌, ◌⊎◌, [], ◌∷◌, ◌++◌, Option, Some, None, Result, Ok, Err, MatchResult}
use Rattle.std.specs.HashSet.{keys}
use Rattle.gk_commands.specs.declared.faults.FaultKind.{FaultKind}
use Rattle.gk_commands.specs.declared.commands.Command.{Command}
use Rattle.command_reader.specs.declared.kept.Kept.{Kept}
use Rattle.command_reader.specs.Index.{AddsDeclared, MayRefuseCommand, fault_by_names}

-- a command without a fault was added, with its line's number, and the name of the zone that it
-- declares
pub record AddsCommand (old new : Kept) (command : Command) : Type 0 where
  pub free : fault_by_names (keys old.declared) command ≡ None
  pub declared : AddsDeclared (keys old.declared) (keys new.declared) command
  pub commands : new.commands.items ≡ old.commands.items ++ command ∷ []
  pub numbers : new.numbers.items ≡ old.numbers.items ++ old.line ∷ []
  pub line : new.line ≡ old.line

-- the same is kept
pub record KeepsAll (old new : Kept) : Type 0 where
  pub commands : new.commands.items ≡ old.commands.items
  pub numbers : new.numbers.items ≡ old.numbers.items
  pub declared : keys new.declared ≡ keys old.declared
  pub line : new.line ≡ old.line

-- what a line says was added: its command, or nothing if it is passed over
abbrev pub AddsSaid : Kept → Kept → Option Command → Type 0
AddsSaid old new None = KeepsAll old new
AddsSaid old new (Some command) = AddsCommand old new command

-- what was said was added
pub record Adds (old new : Kept) (said : Result (Option Command) FaultKind) : Type 0 where
  pub what : Option Command
  pub said_is : said ≡ Ok what
  pub added : AddsSaid old new what

-- a line says a command that is refused: for its fault, or because memory ran out, if it has none
pub record RefusesCommand
    (old : Kept) (said : Result (Option Command) FaultKind) (kind : FaultKind)
    : Type 0 where
  pub command : Command
  pub said_is : said ≡ Ok (Some command)
  pub refused : MayRefuseCommand (fault_by_names (keys old.declared) command) kind

-- what was said was added; or nothing was, and the answer says why: the first fault of the line,
-- that of its command, or that memory ran out
abbrev pub MayAdd : {A : Type 0} → Kept → Result (Option Command) FaultKind → Kept
    → Result A FaultKind → Type 0
MayAdd old said new result =
    MatchResult result
    (λ _. Adds old new said)
    (λ kind. ((said ≡ Err kind) ⊎ RefusesCommand old said kind) × KeepsAll old new)

-- the command that a line says was made, to be added; or the answer says why not, as `MayAdd` does
abbrev pub MayMake : Kept → Result (Option Command) FaultKind → Result Command FaultKind → Type 0
MayMake kept said result =
    MatchResult result
    (λ command. said ≡ Ok (Some command))
    (λ kind. (said ≡ Err kind) ⊎ RefusesCommand kept said kind)

-- a line is passed over, or its fault says why not
abbrev pub Passes : {A : Type 0} → Result (Option Command) FaultKind → Result A FaultKind → Type 0
Passes said result = MatchResult result (λ _. said ≡ Ok None) (λ kind. said ≡ Err kind)
