-- Dialled digits: the characters of H.225.0's dialedDigits except the comma, 1 to 32 of them.
use Rattle.std.specs.Prelude.{ℕ, ◌==◌, Bool, ◌&&◌, ◌||◌, IsTrue, nat_le, List, length, Option}
use Rattle.std.specs.Bool.{then_some}
use Rattle.std.specs.Char.{is_ascii_digit}
use Rattle.std.specs.List.{list_all}
use Rattle.gk_terms.specs.declared.limits.TheConstants.{MOST_DIALLED}

-- 0 to 9, the hash sign or the star
abbrev pub is_dialled_byte : ℕ → Bool
is_dialled_byte b = is_ascii_digit b || (b == 35) || (b == 42)

-- 1 to 32 of them
abbrev pub is_dialled : List ℕ → Bool
is_dialled text =
    nat_le 1 (length text) && nat_le (length text) MOST_DIALLED
    && list_all is_dialled_byte text

abbrev pub IsDialled : List ℕ → Type 0
IsDialled text = IsTrue (is_dialled text)

-- the digits that a text spells
abbrev pub dialled_of : List ℕ → Option (List ℕ)
dialled_of text = then_some (is_dialled text) text
