-- What holds of the lists that the places have seen.
use Rattle.std.specs.Prelude.{◌≡◌, ℕ, List}
use mathlib.Core.Option.{some}
use mathlib.Core.List.{IsPrefix}
use lib.ListN.{get_elem?}
use Rattle.gk_commands.specs.declared.commands.Command.{Command}

-- each list that was seen is a beginning of this list
abbrev pub AllBegin : List (List Command) → List (List (List Command)) → Type 0
AllBegin list views =
    (seat : ℕ) (seen : List (List Command)) → get_elem? views seat ≡ some seen → IsPrefix seen list
