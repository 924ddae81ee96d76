-- What of a configuration goes on from a front of dialled characters.
use Rattle.std.specs.Prelude.{◌≡◌, ℕ, ◌-◌, ◌<◌, ◌≤◌, ◌==◌, ◌||◌, Bool, true, false, not, List, [], length, drop, get_or, slice_get, Option, Some, None}
use Rattle.std.specs.List.{list_any, starts_with}
use Rattle.digit_patterns.specs.PatternParts.{PatternParts}
use Rattle.gk_commands.specs.declared.commands.Command.{Command}
use Rattle.compiler.specs.Rows.{ZoneRow, rows_of}
use Rattle.compiler.specs.Technology.{prefixes_of, technology_of, found_length}
use Rattle.plan_difference.specs.Gathered.{Has, has_no_star}
use Rattle.plan_difference.specs.Sets.{hops_off, is_joint}
use Rattle.difference_counts.specs.Numbers.{character_at}
use Rattle.difference_counts.specs.Places.{has_at}

-- whether the literals of a pattern have a character at a place
abbrev pub pattern_has_at : ℕ → ℕ → PatternParts → Bool
pattern_has_at place character pattern = has_at place character pattern.literals

-- the technology prefixes of a configuration that begin with this front are among these
abbrev pub HasPrefixesOn : List Command → List ℕ → List (List ℕ) → Type 0
HasPrefixesOn commands front prefixes =
    (place : ℕ) (prefix : List ℕ) → slice_get (prefixes_of commands) place ≡ Some prefix
    → starts_with ◌==◌ prefix front ≡ true → Has prefixes prefix

-- the patterns of its rows whose literals begin with the front, after this technology prefix, are
-- among these; none need be if that hops off
abbrev pub HasPatternsOn : List Command → List ℕ → Option (List ℕ) → List PatternParts → Type 0
HasPatternsOn commands front technology patterns =
    hops_off commands technology ≡ false
    → (place : ℕ) (row : ZoneRow) → slice_get (rows_of commands) place ≡ Some row
    → starts_with ◌==◌ row.0.literals (drop (found_length technology) front) ≡ true
    → Has patterns row.0

-- the technology prefixes ahead of a front, for which this one is found
pub record IsAhead (commands : List Command) (front : List ℕ) (technology : Option (List ℕ))
    (prefixes : List (List ℕ)) : Type 0 where
  pub within : found_length technology ≤ length front
  pub prefixes_on : HasPrefixesOn commands front prefixes

-- no technology prefix and no literals have a star
pub record AreLiteral (commands : List Command) : Type 0 where
  pub prefixes : (place : ℕ) (prefix : List ℕ)
      → slice_get (prefixes_of commands) place ≡ Some prefix → has_no_star prefix ≡ true
  pub rows : (place : ℕ) (row : ZoneRow) → slice_get (rows_of commands) place ≡ Some row
      → has_no_star row.0.literals ≡ true

-- and the technology prefix is the one that is found for the front
pub record IsAt (commands : List Command) (front : List ℕ) (technology : Option (List ℕ))
    (prefixes : List (List ℕ)) : Type 0 where
  pub ahead : IsAhead commands front technology prefixes
  pub known : technology ≡ technology_of commands front

-- so for two configurations; of the patterns that go on none need be there if both have found the
-- same technology prefix, or none, and in neither hop off with it
pub record AreAt (old new : List Command) (front : List ℕ) (old_technology : Option (List ℕ))
    (old_prefixes : List (List ℕ)) (old_patterns : List PatternParts)
    (new_technology : Option (List ℕ)) (new_prefixes : List (List ℕ))
    (new_patterns : List PatternParts) : Type 0 where
  pub old_at : IsAt old front old_technology old_prefixes
  pub new_at : IsAt new front new_technology new_prefixes
  pub old_patterns_on : is_joint old new old_technology new_technology ≡ false
      → HasPatternsOn old front old_technology old_patterns
  pub new_patterns_on : is_joint old new old_technology new_technology ≡ false
      → HasPatternsOn new front new_technology new_patterns

-- all patterns of a configuration are among these, and nothing of it has a star
pub record IsWhole (commands : List Command) (patterns : List PatternParts) : Type 0 where
  pub patterns_on : HasPatternsOn commands [] None patterns
  pub literal : AreLiteral commands

-- whether anything goes on with a character, after a front of so many
abbrev pub has_next : Option (List ℕ) → List (List ℕ) → List PatternParts → ℕ → ℕ → Bool
has_next technology prefixes patterns count character =
    list_any (has_at count character) prefixes
    || list_any (pattern_has_at (count - found_length technology) character) patterns

-- whether the literals of a pattern are without a star
abbrev pub literal_pattern : PatternParts → Bool
literal_pattern pattern = has_no_star pattern.literals

-- of each character, whether nothing goes on with it
pub record AreEnds (goes_on : ℕ → Bool) (flags : List Bool) : Type 0 where
  pub each : (number : ℕ) → number < 12
      → get_or flags number false ≡ not (goes_on (character_at number))
