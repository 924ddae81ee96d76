-- Which technology prefixes make no digits with a stem: a longer one that is declared begins them.
use Rattle.std.specs.Prelude.{◌≡◌, ℕ, ◌+◌, ◌==◌, ◌||◌, ◌<◌, ◌≤◌, Bool, true, if◌then◌else◌, List, [], ◌++◌, length, take, slice_get, slice_index_or, Option, Some, None, option_map, unwrap_or, ◌⊎◌}
use Rattle.gk_terms.specs.Dialled.{IsDialled}
use Rattle.digit_patterns.specs.PatternParts.{PatternParts}
use Rattle.gk_commands.specs.declared.commands.Command.{Command}
use Rattle.compiler.specs.Technology.{prefixes_of, technology_of, found_length}
use Rattle.plan_difference.specs.Gathered.{Has, is_joint_head, has_no_star}
use Rattle.plan_difference.specs.Walk.{Heads, text_of, longer_of}

-- the longest technology prefix that either configuration finds
abbrev pub longest_of : (old new : List Command) → List ℕ → Option (List ℕ)
longest_of old new digits = longer_of (technology_of old digits) (technology_of new digits)

-- no digits that go on from this front after this technology prefix have it as the longest one
abbrev pub Blocked : (old new : List Command) → List ℕ → Option (List ℕ) → Type 0
Blocked old new front head =
    (rest : List ℕ) → IsDialled (text_of head ++ (front ++ rest))
    → longest_of old new (text_of head ++ (front ++ rest)) ≡ head → ⊥

-- the stem after this technology prefix has it as the longest one
pub record IsFree (old new : List Command) (stem : List ℕ) (head : Option (List ℕ)) : Type 0 where
  pub dialled : IsDialled (text_of head ++ stem)
  pub longest : longest_of old new (text_of head ++ stem) ≡ head

-- so, or they are too long together
abbrev pub IsFreeOrLong : (old new : List Command) → List ℕ → Option (List ℕ) → Type 0
IsFreeOrLong old new stem head =
    IsFree old new stem head ⊎ (33 ≤ found_length head + length stem)

-- the technology prefixes before a place are blocked
abbrev pub BlockedBefore : (old new : List Command) → Heads → List ℕ → ℕ → Type 0
BlockedBefore old new heads front bound =
    (place : ℕ) → place < bound → (head : Option (List ℕ)) → slice_get heads place ≡ Some head
    → Blocked old new front head

-- for each number of characters, those before a place are blocked for so many of a stem
abbrev pub ArePassed : (old new : List Command) → Heads → List ℕ → List ℕ → Type 0
ArePassed old new heads firsts stem =
    (level : ℕ) → level < 33
    → BlockedBefore old new heads (take level stem) (slice_index_or firsts level 0)

-- places that hold for a stem with so many characters in common: of the others, the last that does
abbrev pub IsKept : ℕ → List ℕ → List ℕ → ℕ → Type 0
IsKept common before after level =
    ((level ≤ common) × (slice_index_or after level 0 ≡ slice_index_or before level 0))
    ⊎ ((common < level) × (slice_index_or after level 0 ≡ slice_index_or before common 0))

abbrev pub AreKept : ℕ → List ℕ → List ℕ → Type 0
AreKept common before after = (level : ℕ) → level < 33 → IsKept common before after level

-- the places of more characters are no less
abbrev pub AreRising : List ℕ → Type 0
AreRising firsts =
    (level later : ℕ) → level ≤ later → later < 33
    → slice_index_or firsts level 0 ≤ slice_index_or firsts later 0

-- one more, if it is one of two places
abbrev pub one_more : ℕ → ℕ → ℕ → ℕ
one_more place other first = if first == place || first == other then first + 1 else first

-- so, from so many characters on
abbrev pub IsRaised : ℕ → ℕ → ℕ → List ℕ → List ℕ → ℕ → Type 0
IsRaised least place other before after level =
    ((level < least) × (slice_index_or after level 0 ≡ slice_index_or before level 0))
    ⊎ ((least ≤ level)
    × (slice_index_or after level 0 ≡ one_more place other (slice_index_or before level 0)))

abbrev pub AreRaised : ℕ → ℕ → ℕ → List ℕ → List ℕ → Type 0
AreRaised least place other before after =
    (level : ℕ) → level < 33 → IsRaised least place other before after level

-- the literals of the pattern at a place
abbrev pub literals_at : List PatternParts → ℕ → List ℕ
literals_at patterns place =
    unwrap_or (option_map (λ pattern. pattern.literals) (slice_get patterns place)) []

-- whether a technology prefix has so many characters; none has 0
abbrev pub has_length : ℕ → Option (List ℕ) → Bool
has_length size head = found_length head == size

-- what is found of some technology prefixes for a stem: that each is blocked, or one that is not
abbrev pub IsFound : (old new : List Command) → Heads → List ℕ → Option (Option (List ℕ)) → Type 0
IsFound old new heads stem None =
    (place : ℕ) (head : Option (List ℕ)) → slice_get heads place ≡ Some head
    → Blocked old new stem head
IsFound old new heads stem (Some head) = Has heads head × IsFreeOrLong old new stem head

-- so, if none of others was found before, which stays
abbrev pub IsTried : (old new : List Command) → Heads → List ℕ
    → (before after : Option (Option (List ℕ))) → Type 0
IsTried old new heads stem None after = IsFound old new heads stem after
IsTried old new heads stem (Some head) after = after ≡ Some head

-- each of these with fewer characters is blocked
abbrev pub BlockedBelow : (old new : List Command) → Heads → List ℕ → ℕ → Type 0
BlockedBelow old new heads stem size =
    (place : ℕ) (head : Option (List ℕ)) → slice_get heads place ≡ Some head
    → found_length head < size → Blocked old new stem head

-- the one with the fewest characters that is not blocked; if there is none, each with fewer than so
-- many is
abbrev pub IsChosen : (old new : List Command) → Heads → List ℕ → ℕ → Option (Option (List ℕ))
    → Type 0
IsChosen old new heads stem size None = BlockedBelow old new heads stem size
IsChosen old new heads stem size (Some head) =
    Has heads head × IsFreeOrLong old new stem head
    × BlockedBelow old new heads stem (found_length head)

-- for the literals of each pattern, if it has some
abbrev pub AreChosen : (old new : List Command) → Heads → List PatternParts → ℕ
    → List (Option (Option (List ℕ))) → Type 0
AreChosen old new heads patterns size chosen =
    (place : ℕ) → 0 < length (literals_at patterns place)
    → IsChosen old new heads (literals_at patterns place) size (slice_index_or chosen place None)

-- each technology prefix that is declared is without a star
abbrev pub IsStarless : List Command → Type 0
IsStarless commands =
    (place : ℕ) (prefix : List ℕ) → slice_get (prefixes_of commands) place ≡ Some prefix
    → has_no_star prefix ≡ true

-- the group of each of these technology prefixes is the joint one
pub record AreJoint (old new : List Command) (heads : Heads) : Type 0 where
  pub old_starless : IsStarless old
  pub new_starless : IsStarless new
  pub each : (place : ℕ) (head : Option (List ℕ)) → slice_get heads place ≡ Some head
      → is_joint_head old new head ≡ true
