-- What is kept of the last set while sets are written.
use Rattle.std.specs.Prelude.{◌≡◌, ◌<◌, ℕ, suc, List, slice_get, Option, Some, None, ⊤}
use Rattle.std.specs.Option.{option_map}
use Rattle.gk_commands.specs.declared.commands.Command.{Command}
use Rattle.plan_difference.specs.declared.number_sets.NumberSet.{NumberSet}
use Rattle.plan_difference.specs.declared.number_sets.Group.{Group}
use Rattle.plan_difference.specs.Entries.{Entry, Entries, EntryAt, group_of}
use Rattle.difference_report.specs.ReportText.{width_of}

-- its group, and how many characters the widest set of that has
pub record BlockParts : Type 0 where
  pub group : Group
  pub width : ℕ

abbrev pub group_in : Option BlockParts → Option Group
group_in block = option_map (λ (b : BlockParts). b.group) block

-- the set at a place is of this group
pub record IsOf (listed : Entries) (place : ℕ) (group : Group) : Type 0 where
  pub set : NumberSet
  pub digits : List ℕ
  pub stands : EntryAt listed place set digits
  pub is : group ≡ group_of set

-- it is that of the set before this place
pub record IsBefore (old new : List Command) (listed : Entries) (place : ℕ) (block : BlockParts)
    : Type 0 where
  pub last : ℕ
  pub follows : place ≡ suc last
  pub grouped : IsOf listed last block.group
  pub width : block.width ≡ width_of old new listed block.group

-- so, or there is none before the first place
abbrev pub IsBlock : (old new : List Command) → Entries → ℕ → Option BlockParts → Type 0
IsBlock old new listed place None = place ≡ 0
IsBlock old new listed place (Some block) = IsBefore old new listed place block

-- it is of another group, if there is one
abbrev pub IsOther : Option BlockParts → Group → Type 0
IsOther None group = ⊤
IsOther (Some block) group = ¬ (block.group ≡ group)

-- the first set of a group stands at a place
pub record IsFirst (listed : Entries) (place : ℕ) (group : Group) : Type 0 where
  pub here : IsOf listed place group
  pub before : (earlier : ℕ) (entry : Entry) → earlier < place
      → slice_get listed earlier ≡ Some entry → ¬ (group_of entry.0 ≡ group)
