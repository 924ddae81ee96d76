-- The names of declared zones, kept for look-ups.
use Rattle.std.specs.Prelude.{◌≡◌, ◌⊎◌, ℕ, List, ◌∷◌, length, Option, Some, None, bytes_eq, option_and_then, option_map, MatchOption}
use Rattle.std.specs.List.{list_any}
use Rattle.std.specs.List.Sorted.{IsPermutation}
use Rattle.gk_commands.specs.declared.commands.Command.{Command}
use Rattle.gk_commands.specs.declared.faults.FaultKind.{FaultKind}
use Rattle.gk_commands.specs.declared.faults.FaultKind.TheVariants.{NoMemory}
use Rattle.gk_commands.specs.Zones.{zones_of, declared_by, is_declared}
use Rattle.gk_commands.specs.Reading.{fault_of_name}

-- the names are those of the zones that the commands declare, each once
pub record AreDeclared (names : List (List ℕ)) (commands : List Command) : Type 0 where
  pub same : (name : List ℕ) → list_any (bytes_eq name) names ≡ is_declared commands name
  pub count : length names ≡ length (zones_of commands)

-- the name of the zone that a command declares
abbrev pub declared_name : Command → Option (List ℕ)
declared_name command = option_map (λ zone. zone.0) (declared_by command)

-- the fault of one more zone of this name, by the names alone
abbrev pub fault_of_one_more : List (List ℕ) → List ℕ → Option FaultKind
fault_of_one_more names name = fault_of_name (list_any (bytes_eq name) names) (length names)

-- the fault of a command, by the names alone
abbrev pub fault_by_names : List (List ℕ) → Command → Option FaultKind
fault_by_names names command =
    option_and_then (fault_of_one_more names) (declared_name command)

-- why a command is not added: its fault; or out of memory, if it has none
abbrev pub MayRefuseCommand : Option FaultKind → FaultKind → Type 0
MayRefuseCommand fault kind = (fault ≡ Some kind) ⊎ ((kind ≡ NoMemory) × (fault ≡ None))

-- new has the name that the command declares, if it declares one, beside those of old
abbrev pub AddsDeclared : List (List ℕ) → List (List ℕ) → Command → Type 0
AddsDeclared old new command =
    MatchOption (declared_name command) (new ≡ old) (λ name. IsPermutation (name ∷ old) new)
