-- The sets that are found while digits are gone through, each with some digits of it.
use Rattle.std.specs.Prelude.{◌≡◌, ℕ, Bool, true, false, ◌&&◌, List, [], ◌∷◌, ◌++◌, slice_get, Option, Some, None, is_some, ◌⊎◌, bytes_eq}
use Rattle.std.specs.Map.{lookup}
use Rattle.std.specs.Option.{option_eq}
use Rattle.digit_patterns.specs.Pattern.{same_pattern}
use Rattle.gk_commands.specs.declared.commands.Command.{Command}
use Rattle.plan_difference.specs.declared.number_sets.NumberSet.{NumberSet}
use Rattle.plan_difference.specs.declared.number_sets.Group.{Group}
use Rattle.plan_difference.specs.Difference.{SamePlan}
use Rattle.plan_difference.specs.Sets.{set_of, Covers}

-- a set, and digits that are in it
abbrev pub Entry : Type 0
Entry = NumberSet × List ℕ

abbrev pub Entries : Type 0
Entries = List Entry

-- an entry stands at a place
abbrev pub EntryAt : Entries → ℕ → NumberSet → List ℕ → Type 0
EntryAt entries place set digits = slice_get entries place ≡ Some (set, digits)

-- no set is there twice
abbrev pub AreOnce : Entries → Type 0
AreOnce entries =
    (place other : ℕ) (set : NumberSet) (digits other_digits : List ℕ)
    → EntryAt entries place set digits → EntryAt entries other set other_digits → place ≡ other

-- a set is there
pub record IsIn (entries : Entries) (set : NumberSet) : Type 0 where
  pub place : ℕ
  pub digits : List ℕ
  pub stands : EntryAt entries place set digits

-- whether two sets are the same
abbrev pub same_set : NumberSet → NumberSet → Bool
same_set set other =
    option_eq bytes_eq set.old_technology other.old_technology
    && (option_eq bytes_eq set.new_technology other.new_technology
    && (option_eq same_pattern set.old_row other.old_row
    && option_eq same_pattern set.new_row other.new_row))

-- the set was there, or it was not, and is the last one now
abbrev pub NotedBy : Entries → Entries → NumberSet → List ℕ → Type 0
NotedBy before after set digits =
    ((after ≡ before) × IsIn before set)
    ⊎ ((after ≡ before ++ (set, digits) ∷ []) × (IsIn before set → ⊥))

-- digits of a set that are planned otherwise
pub record IsSample (old new : List Command) (set : NumberSet) (digits : List ℕ) : Type 0 where
  pub covers : Covers old new set digits
  pub differs : ¬ SamePlan old new digits

-- each set is there with such digits
abbrev pub AreSampled : (old new : List Command) → Entries → Type 0
AreSampled old new entries =
    (place : ℕ) (set : NumberSet) (digits : List ℕ) → EntryAt entries place set digits
    → IsSample old new set digits

-- each set is there with digits of it
abbrev pub HaveDigits : (old new : List Command) → Entries → Type 0
HaveDigits old new entries =
    (place : ℕ) (set : NumberSet) (digits : List ℕ) → EntryAt entries place set digits
    → Covers old new set digits

-- these are the entries, in their order, whose digits are planned otherwise
abbrev pub AreChanged : (old new : List Command) → Entries → Entries → Type 0
AreChanged old new [] changed = changed ≡ []
AreChanged old new (entry ∷ entries) changed =
    (SamePlan old new entry.1 × AreChanged old new entries changed)
    ⊎ ((rest : Entries) × (changed ≡ entry ∷ rest) × (¬ SamePlan old new entry.1)
    × AreChanged old new entries rest)

-- a set is noted if its digits are planned otherwise
abbrev pub NotedIfChanged : (old new : List Command) → Entries → Entries → Entry → Type 0
NotedIfChanged old new before after entry =
    (SamePlan old new entry.1 × (after ≡ before))
    ⊎ ((¬ SamePlan old new entry.1) × NotedBy before after entry.0 entry.1)

-- whether a set is there
abbrev pub has_set : Entries → NumberSet → Bool
has_set entries set = is_some (lookup (same_set set) entries)

-- more sets are there, each with digits of it
pub record Grows (old new : List Command) (before after : Entries) : Type 0 where
  pub covered : HaveDigits old new before → HaveDigits old new after
  pub kept : (set : NumberSet) → IsIn before set → IsIn after set

-- the set of these digits is there
abbrev pub IsEntered : (old new : List Command) → Entries → List ℕ → Type 0
IsEntered old new entries digits = IsIn entries (set_of old new digits)

-- the group of a set
abbrev pub group_of : NumberSet → Group
group_of set = record { old = set.old_technology; new = set.new_technology }

-- the group of these technology prefixes
abbrev pub group_by : Bool → (old_technology new_technology : Option (List ℕ)) → Group
group_by true old_technology new_technology = record { old = None; new = None }
group_by false old_technology new_technology = record { old = old_technology; new = new_technology }
