-- Technology prefixes, as in Cisco's `gw-type-prefix`.
use Rattle.std.specs.Prelude.{ℕ, ◌==◌, Bool, ◌&&◌, ◌||◌, IsTrue, nat_le, List, length, Option}
use Rattle.std.specs.Bool.{then_some}
use Rattle.std.specs.Char.{is_ascii_digit}
use Rattle.std.specs.List.{list_all}
use Rattle.gk_terms.specs.Text.{strip_end}
use Rattle.gk_terms.specs.declared.limits.TheConstants.{MOST_TECHNOLOGY}

-- 0 to 9 or the hash sign
abbrev pub is_technology_byte : ℕ → Bool
is_technology_byte b = is_ascii_digit b || (b == 35)

-- 1 to 11 of them
abbrev pub is_tech_prefix : List ℕ → Bool
is_tech_prefix text =
    nat_le 1 (length text) && nat_le (length text) MOST_TECHNOLOGY
    && list_all is_technology_byte text

abbrev pub IsTechPrefix : List ℕ → Type 0
IsTechPrefix text = IsTrue (is_tech_prefix text)

-- without one star at the end
abbrev pub without_star : List ℕ → List ℕ
without_star text = strip_end 42 text

-- the prefix that a text spells: one star at its end is dropped
abbrev pub tech_prefix_of : List ℕ → Option (List ℕ)
tech_prefix_of text = then_some (is_tech_prefix (without_star text)) (without_star text)
