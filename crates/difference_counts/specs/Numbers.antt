-- How many dialled texts pass a test.
use Rattle.std.specs.Prelude.{ℕ, zero, suc, ◌+◌, Bool, List, [], ◌∷◌, cond, slice_index}
use Rattle.std.specs.List.{sum_by}

-- the characters that may be dialled: 0 to 9, the hash sign and the star
abbrev pub CHARACTERS : List ℕ
CHARACTERS = 48 ∷ 49 ∷ 50 ∷ 51 ∷ 52 ∷ 53 ∷ 54 ∷ 55 ∷ 56 ∷ 57 ∷ 35 ∷ 42 ∷ []

-- the one of a number, 0 to 11
abbrev pub character_at : ℕ → ℕ
character_at number = slice_index CHARACTERS number

-- the sum over all numbers that are less than this
unfoldable pub sum_to : ℕ → (ℕ → ℕ) → ℕ
sum_to zero f = 0
sum_to (suc count) f = sum_to count f + f count

-- 1 for what passes
abbrev pub one_if : Bool → ℕ
one_if passes = cond passes 1 0

-- how many texts of at most so many characters pass: the empty one, if it does, and after each
-- character the texts of one character less
unfoldable pub up_to : ℕ → (List ℕ → Bool) → ℕ
up_to zero passes = one_if (passes [])
up_to (suc most) passes =
    one_if (passes []) + sum_by (λ c. up_to most (λ rest. passes (c ∷ rest))) CHARACTERS

-- how many texts of 1 to 32 characters pass: after each first character those of at most 31 more
unfoldable pub how_many : (List ℕ → Bool) → ℕ
how_many passes = sum_by (λ first. up_to 31 (λ rest. passes (first ∷ rest))) CHARACTERS
