-- What is said of how long the digits of a set are.
use Rattle.std.specs.Prelude.{◌≡◌, ◌↔◌, ℕ, Bool, true, List, option_map, unwrap_or}
use Rattle.gk_commands.specs.declared.commands.Command.{Command}
use Rattle.compiler.specs.Rows.{ZoneRow, row_of}
use Rattle.compiler.specs.Technology.{prefix_in}
use Rattle.plan_difference.specs.Entries.{Entry}
use Rattle.plan_difference.specs.Gathered.{has_no_star}
use Rattle.plan_difference.specs.Sets.{Covers}
use Rattle.difference_report.specs.Lengths.{has_others, length_after}

-- digits of the set have another length than these, each after the technology prefix of the joint
-- group
pub record HasOther (old new : List Command) (entry : Entry) : Type 0 where
  pub digits : List ℕ
  pub covers : Covers old new entry.0 digits
  pub differs : ¬ (length_after old (entry.0, digits) ≡ length_after old entry)

-- a set is said to have digits of another length than these of it exactly if it has some
abbrev pub LengthsAreTold : (old new : List Command) → Type 0
LengthsAreTold old new =
    (entry : Entry) → Covers old new entry.0 entry.1
    → (has_others old new entry ≡ true) ↔ HasOther old new entry

-- ---- neither a technology prefix nor the literals of a zone prefix have a star
abbrev pub prefix_is_literal : Command → Bool
prefix_is_literal command = unwrap_or (option_map has_no_star (prefix_in command)) true

abbrev pub row_is_literal : Command → Bool
row_is_literal command =
    unwrap_or (option_map (λ (row : ZoneRow). has_no_star row.0.literals) (row_of command)) true
