-- Dialled digits in 16 bytes: two characters in each.
use Rattle.std.specs.Prelude.{◌≡◌, ℕ, ◌+◌, ◌-◌, ◌*◌, ◌/◌, ◌%◌, ◌==◌, List, [], ◌∷◌, Option, None, Some, if◌then◌else◌}
use Rattle.gk_terms.specs.Dialled.{IsDialled}
use Rattle.gk_terms.specs.Spelling.{padded}

-- ---- a character in 4 bits: 1 to 10 a digit, 11 the hash sign, 12 the star; 0 is none
abbrev pub nibble_of : ℕ → ℕ
nibble_of c = if c == 35 then 11 else if c == 42 then 12 else c - 47

abbrev pub character_of : ℕ → ℕ
character_of n = if n == 11 then 35 else if n == 12 then 42 else n + 47

-- the character that 4 bits say, if they say one
abbrev pub character_in : ℕ → Option ℕ
character_in n = if n == 0 then None else Some (character_of n)

-- ---- texts
-- two characters in each byte, the first in its low bits
unfoldable pub pairs_of : List ℕ → List ℕ
pairs_of [] = []
pairs_of (first ∷ []) = nibble_of first ∷ []
pairs_of (first ∷ second ∷ rest) = (nibble_of first + 16 * nibble_of second) ∷ pairs_of rest

-- and zeros after them
abbrev pub packed : List ℕ → List ℕ
packed text = padded 16 (pairs_of text)

-- the characters of such bytes, up to the first that is none
unfoldable pub unpacked : List ℕ → List ℕ
unpacked [] = []
unpacked (byte ∷ rest) =
    if (byte % 16) == 0 then []
    else if (byte / 16) == 0 then character_of (byte % 16) ∷ []
    else character_of (byte % 16) ∷ character_of (byte / 16) ∷ unpacked rest

-- the bytes are those of dialled digits
pub record ArePacked (bytes : List ℕ) : Type 0 where
  pub digits : IsDialled (unpacked bytes)
  pub back : packed (unpacked bytes) ≡ bytes
