-- The digits that are tried: after a technology prefix or none, what is left of the literals of a
-- zone prefix, and so many stars.
use Rattle.std.specs.Prelude.{◌≡◌, ℕ, ◌<◌, false, nat_lt, List, [], ◌∷◌, ◌++◌, length, drop, replicate, slice_get, Option, Some, None, ⊤, if◌then◌else◌}
use Rattle.gk_terms.specs.Dialled.{IsDialled}
use Rattle.digit_patterns.specs.PatternParts.{PatternParts}
use Rattle.gk_commands.specs.declared.commands.Command.{Command}
use Rattle.compiler.specs.Technology.{technology_of, found_length}
use Rattle.plan_difference.specs.declared.number_sets.Group.{Group}
use Rattle.plan_difference.specs.Entries.{Entries, IsEntered, group_of}
use Rattle.plan_difference.specs.Sets.{set_of, hops_off, is_joint}

-- a text with so many stars after it
abbrev pub starred : List ℕ → ℕ → List ℕ
starred text count = text ++ replicate count 42

-- how many characters may be filled up with stars, and one more
abbrev pub STARS : ℕ
STARS = 33

-- the text of a technology prefix; empty if there is none
abbrev pub text_of : Option (List ℕ) → List ℕ
text_of None = []
text_of (Some prefix) = prefix

-- the longer of two technology prefixes, the first if they are as long; none if there is none
abbrev pub longer_of : Option (List ℕ) → Option (List ℕ) → Option (List ℕ)
longer_of None other = other
longer_of (Some prefix) None = Some prefix
longer_of (Some prefix) (Some other) =
    if nat_lt (length prefix) (length other) then Some other else Some prefix

-- technology prefixes or none, each of which may stand before the others
abbrev pub Heads : Type 0
Heads = List (Option (List ℕ))

-- digits of a group that begin with one of these prefixes, with no longer one that is declared
pub record IsPick (old new : List Command) (heads : Heads) (group : Group) (stem : List ℕ)
    (stars : ℕ) (digits : List ℕ) : Type 0 where
  pub place : ℕ
  pub head : Option (List ℕ)
  pub stands : slice_get heads place ≡ Some head
  pub spelled : digits ≡ starred (text_of head ++ stem) stars
  pub dialled : IsDialled digits
  pub grouped : group_of (set_of old new digits) ≡ group
  pub longest : longer_of (technology_of old digits) (technology_of new digits) ≡ head

-- some such digits are entered
pub record IsPicked (old new : List Command) (entries : Entries) (heads : Heads) (group : Group)
    (stem : List ℕ) (stars : ℕ) : Type 0 where
  pub digits : List ℕ
  pub pick : IsPick old new heads group stem stars digits
  pub entered : IsEntered old new entries digits

-- so if there are any
abbrev pub Settles : (old new : List Command) → Entries → Heads → Group → List ℕ → ℕ → Type 0
Settles old new entries heads group stem stars =
    (digits : List ℕ) → IsPick old new heads group stem stars digits
    → IsPicked old new entries heads group stem stars

-- for this stem and each number of stars
abbrev pub SettlesStem : (old new : List Command) → Entries → Heads → Group → List ℕ → Type 0
SettlesStem old new entries heads group stem =
    (stars : ℕ) → stars < STARS → Settles old new entries heads group stem stars

-- for what is left of the literals of a pattern after this front
abbrev pub SettlesPattern : (old new : List Command) → Entries → Heads → Group → List ℕ
    → PatternParts → Type 0
SettlesPattern old new entries heads group front pattern =
    (stem : List ℕ) → pattern.literals ≡ front ++ stem
    → SettlesStem old new entries heads group stem

-- for each of these patterns
abbrev pub SettlesPatterns : (old new : List Command) → Entries → Heads → Group → List ℕ
    → List PatternParts → Type 0
SettlesPatterns old new entries heads group front patterns =
    (place : ℕ) (pattern : PatternParts) → slice_get patterns place ≡ Some pattern
    → SettlesPattern old new entries heads group front pattern

-- the group of a technology prefix: nothing if it is the joint one
pub record SettlesGroup (old new : List Command) (entries : Entries) (patterns : List PatternParts)
    (prefix : List ℕ) (old_technology new_technology : Option (List ℕ)) : Type 0 where
  pub alone : SettlesStem old new entries (Some prefix ∷ [])
      (record { old = old_technology; new = new_technology }) []
  pub by_old : hops_off old old_technology ≡ false
      → SettlesPatterns old new entries (Some prefix ∷ [])
      (record { old = old_technology; new = new_technology })
      (drop (found_length old_technology) prefix) patterns
  pub by_new : hops_off new new_technology ≡ false
      → SettlesPatterns old new entries (Some prefix ∷ [])
      (record { old = old_technology; new = new_technology })
      (drop (found_length new_technology) prefix) patterns

abbrev pub SettlesHead : (old new : List Command) → Entries → List PatternParts
    → Option (List ℕ) → Type 0
SettlesHead old new entries patterns None = ⊤
SettlesHead old new entries patterns (Some prefix) =
    is_joint old new (technology_of old prefix) (technology_of new prefix) ≡ false
    → SettlesGroup old new entries patterns prefix
    (technology_of old prefix) (technology_of new prefix)
