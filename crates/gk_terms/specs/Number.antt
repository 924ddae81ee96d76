-- Numbers in decimal digits.
use Rattle.std.specs.Prelude.{ℕ, ◌+◌, ◌-◌, ◌*◌, ◌==◌, Bool, false, not, ◌&&◌, ◌||◌, nat_le, List, [], ◌∷◌, fold, Option}
use Rattle.std.specs.Bool.{then_some}
use Rattle.std.specs.Char.{is_ascii_digit}
use Rattle.std.specs.List.{list_all}
use Rattle.gk_terms.specs.Text.{is_empty}

-- one or more digits, and no zero in front of another digit
abbrev pub is_numeral : List ℕ → Bool
is_numeral [] = false
is_numeral (d ∷ ds) =
    is_ascii_digit d && list_all is_ascii_digit ds && (not (d == 48) || is_empty ds)

-- what the digits say
abbrev pub value_of : List ℕ → ℕ
value_of ds = fold (λ n d. 10 * n + (d - 48)) 0 ds

-- the number from least to most that a text spells
abbrev pub number_of : ℕ → ℕ → List ℕ → Option ℕ
number_of least most text =
    then_some (is_numeral text && nat_le least (value_of text) && nat_le (value_of text) most)
    (value_of text)
