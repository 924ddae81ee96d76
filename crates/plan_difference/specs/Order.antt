-- In which order sets stand.
use Rattle.std.specs.Prelude.{◌≡◌, ℕ, ◌<◌, ◌≤◌, List, [], ◌∷◌, ◌++◌, length, slice_get, Option, Some, None, ◌⊎◌}
use Rattle.gk_commands.specs.declared.commands.Command.{Command}
use Rattle.compiler.specs.Technology.{technology_of}
use Rattle.plan_difference.specs.declared.number_sets.NumberSet.{NumberSet}
use Rattle.plan_difference.specs.declared.number_sets.Group.{Group}
use Rattle.plan_difference.specs.Difference.{StandsAt}
use Rattle.plan_difference.specs.Entries.{Entries, EntryAt, group_of}
use Rattle.plan_difference.specs.Gathered.{Has, joint}
use Rattle.plan_difference.specs.Walk.{Heads, longer_of}

-- the sets of one group stand together, those of the joint group before all others
pub record AreGrouped (sets : List NumberSet) : Type 0 where
  pub together : (first between last : ℕ) (set middle other : NumberSet)
      → StandsAt sets first set → StandsAt sets between middle → StandsAt sets last other
      → first ≤ between → between ≤ last → group_of set ≡ group_of other
      → group_of middle ≡ group_of set
  pub joint_first : (place later : ℕ) (set other : NumberSet)
      → StandsAt sets place set → StandsAt sets later other → place ≤ later
      → group_of other ≡ joint → group_of set ≡ joint

-- ---- while they are found
-- entries are added at the end, each of a group that is one of these
pub record Adds (IsOne : Group → Type 0) (before after : Entries) : Type 0 where
  pub more : Entries
  pub parts : after ≡ before ++ more
  pub each : (place : ℕ) (set : NumberSet) (digits : List ℕ) → EntryAt more place set digits
      → IsOne (group_of set)

-- it is this group, of digits that begin with one of these technology prefixes, unless it is the
-- joint one
abbrev pub IsOf : Group → Heads → Group → Type 0
IsOf group heads other =
    (other ≡ group) × ((group ≡ joint) ⊎ Has heads (longer_of group.old group.new))

-- it is the group of its own of this technology prefix
abbrev pub IsGroupOf : (old new : List Command) → List ℕ → Group → Type 0
IsGroupOf old new prefix group =
    (group ≡ record { old = technology_of old prefix; new = technology_of new prefix })
    × (longer_of group.old group.new ≡ Some prefix)

-- so, if there is one
abbrev pub IsGroupOfHead : (old new : List Command) → Option (List ℕ) → Group → Type 0
IsGroupOfHead old new None group = ⊥
IsGroupOfHead old new (Some prefix) group = IsGroupOf old new prefix group

-- it is the one of the technology prefix at a place
pub record IsGroupAt (old new : List Command) (heads : Heads) (place : ℕ) (group : Group)
    : Type 0 where
  pub head : Option (List ℕ)
  pub stands : slice_get heads place ≡ Some head
  pub is : IsGroupOfHead old new head group

-- entries in the order of the technology prefixes of their groups, which stand below a bound
pub record AreInOrder (old new : List Command) (heads : Heads) (bound : ℕ) (entries : Entries)
    : Type 0 where
  pub head_place : ℕ → ℕ
  pub below : (place : ℕ) → place < length entries → head_place place < bound
  pub rising : (place later : ℕ) → place ≤ later → later < length entries
      → head_place place ≤ head_place later
  pub each : (place : ℕ) (set : NumberSet) (digits : List ℕ) → EntryAt entries place set digits
      → IsGroupAt old new heads (head_place place) (group_of set)

-- entries are added at the end, in that order
pub record AddsInOrder (old new : List Command) (heads : Heads) (bound : ℕ)
    (before after : Entries) : Type 0 where
  pub more : Entries
  pub parts : after ≡ before ++ more
  pub ordered : AreInOrder old new heads bound more

-- each one is there once
abbrev pub IsEachOnce : {X : Type 0} → List X → Type 0
IsEachOnce {X} xs =
    (place other : ℕ) (x : X) → slice_get xs place ≡ Some x → slice_get xs other ≡ Some x
    → place ≡ other
