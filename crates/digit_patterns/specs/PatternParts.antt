-- What a pattern of dialled characters is.
use Rattle.std.specs.Prelude.{ℕ, ◌+◌, Bool, ◌&&◌, cond, IsTrue, nat_le, List, length}
use Rattle.std.specs.Char.{is_ascii_digit}
use Rattle.std.specs.List.{list_all}
use Rattle.gk_terms.specs.declared.limits.TheConstants.{MOST_DIALLED}

-- the characters in front, how many dots follow them, and whether a star ends the pattern
pub record PatternParts : Type 0 where
  pub literals : List ℕ
  pub dots : ℕ
  pub star : Bool

-- how many characters a dialled text that the pattern matches has at least
abbrev pub least_count : PatternParts → ℕ
least_count p = length p.literals + p.dots

-- how many characters the pattern has
abbrev pub character_count : PatternParts → ℕ
character_count p = least_count p + cond p.star 1 0

-- the literals are 0 to 9, and there are 1 to 32 characters in all
abbrev pub is_pattern : PatternParts → Bool
is_pattern p =
    list_all is_ascii_digit p.literals
    && nat_le 1 (character_count p) && nat_le (character_count p) MOST_DIALLED

abbrev pub IsPattern : PatternParts → Type 0
IsPattern p = IsTrue (is_pattern p)
