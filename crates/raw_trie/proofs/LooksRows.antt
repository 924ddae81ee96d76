-- Worked counts of looks, computed on the definition.
use Rattle.std.proofs.Common.{◌≡◌, ℕ, Bool, true, false, List, [], ◌∷◌, ◌++◌, map, refl}
use Rattle.std.specs.Prelude.{codes}
use Rattle.std.specs.List.{flat_map, range_with_len}
use Rattle.raw_trie.specs.Trie.{Row}
use Rattle.raw_trie.specs.Looks.{looks_of}

abbrev row_of : List ℕ → ℕ → Bool → Row
row_of literals dots star = (record { literals = literals; dots = dots; star = star }, 0)

-- ---- 408* and 4085......
abbrev san_jose : List Row
san_jose = row_of (codes "408") 0 true ∷ row_of (codes "4085") 6 false ∷ []

-- the nodes of nothing, 4, 40, 408 and 4085, and of six dots after 4085, whose pattern is the hit
long_hit : looks_of san_jose (codes "4085551234") ≡ 11
long_hit = refl

-- one digit too many for it: the same nodes, and those of dots after 408, of which there are none
short_hit : looks_of san_jose (codes "40855512345") ≡ 11
short_hit = refl

-- those of nothing and 4, and none of dots after them
no_hit : looks_of san_jose (codes "4181") ≡ 2
no_hit = refl

-- 4, and then no digit
cut_short : looks_of san_jose (codes "4#85551234") ≡ 2
cut_short = refl

-- ---- each pattern of one, two or three digits
abbrev longer : List (List ℕ) → List (List ℕ)
longer texts = flat_map (λ t. map (λ d. t ++ d ∷ []) (range_with_len 48 10)) texts

abbrev numbers : List Row
numbers =
    map (λ t. row_of t 0 false)
    (longer ([] ∷ []) ++ longer (longer ([] ∷ [])) ++ longer (longer (longer ([] ∷ []))))

-- the nodes of nothing, 9, 99 and 999, which has the hit; no character is left for a dot
three_digits : looks_of numbers (codes "999") ≡ 4
three_digits = refl
