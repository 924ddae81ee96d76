-- The history of publications, and the list of generations that it stands for.
use Rattle.std.specs.Prelude.{◌≡◌, Bool, true, false, List, [], ◌∷◌, ◌++◌, fold, Option, Some, None}
use Rattle.std.specs.Bool.{then_some}
use Rattle.std.specs.List.{filter_map}
use mathlib.Core.List.{IsPrefix}
use Rattle.gk_commands.specs.declared.commands.Command.{Command}
use Rattle.publisher.specs.declared.entries.Entry.{Entry}

-- the draft of a publication
abbrev pub draft_of : List Command → Entry
draft_of commands = record { in_force = false; commands = commands }

-- that a draft was shown
abbrev pub confirmation_of : List Command → Entry
confirmation_of commands = record { in_force = true; commands = commands }

-- the commands, if the entry says that they are in force
abbrev pub generation_of : Entry → Option (List Command)
generation_of entry = then_some entry.in_force entry.commands

-- the commands of the entries in force, in order
abbrev pub generations_in : List Entry → List (List Command)
generations_in log = filter_map generation_of log

-- the generations while the publication of the last draft is shown
abbrev pub shown_by : List Entry → List Command → List (List Command)
shown_by log commands = generations_in log ++ commands ∷ []

-- the last entry
abbrev pub last_of : List Entry → Option Entry
last_of log = fold (λ _ entry. Some entry) None log

-- whether the last entry says that its draft is in force
abbrev pub is_in_force : List Entry → Bool
is_in_force log = fold (λ _ entry. entry.in_force) false log

-- an entry in force comes just after the draft of the same commands
abbrev pub MayFollow : List Entry → Entry → Type 0
MayFollow log entry = entry.in_force ≡ true → last_of log ≡ Some (draft_of entry.commands)

-- each entry may follow those before it
abbrev pub IsLegalLog : List Entry → Type 0
IsLegalLog log =
    (before : List Entry) (entry : Entry) → IsPrefix (before ++ entry ∷ []) log
    → MayFollow before entry
