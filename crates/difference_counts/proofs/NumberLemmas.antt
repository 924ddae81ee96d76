-- Texts of which only the length matters are counted by powers of twelve.
use Rattle.std.proofs.Common.{◌≡◌, ℕ, zero, suc, ◌+◌, ◌*◌, ◌^◌, ◌<◌, Bool, true, List, [], ◌∷◌, length, refl, sym, ap, ◌∙◌, arith}
use Rattle.std.specs.List.{sum_by}
use Rattle.std.proofs.lemmas.Grind.{pow_more}
use Rattle.difference_counts.specs.Numbers.{CHARACTERS, how_many, one_if, up_to}
use Rattle.difference_counts.specs.Walk.{shorter, all_shorter}

-- the same number for each character
pub twelve_times : (n : ℕ) → sum_by (λ c. n) CHARACTERS ≡ 12 * n
twelve_times n = omega arith

-- a first character before all
pub shorter_first : (count : ℕ) (passes : ℕ → Bool)
    → shorter (suc count) passes ≡ one_if (passes 0) + 12 * shorter count (λ n. passes (suc n))
unfolding shorter
shorter_first zero passes = omega arith
shorter_first (suc count) passes =
    let before = shorter_first count passes in
    let power : 12 ^ suc count ≡ 12 ^ count * 12 = ap (λ n. 12 ^ n) (one count) ∙ pow_more 12
    count in
    ap (λ n. n + 12 ^ suc count * one_if (passes (suc count))) before
    ∙ ap (λ n. one_if (passes 0) + 12 * shorter count (λ n. passes (suc n)) + n * one_if (passes
    (suc count))) power
    ∙ by (one_if (passes 0)) (shorter count (λ n. passes (suc n))) (12 ^ count) (one_if (passes
    (suc count)))
  where
    one : (n : ℕ) → suc n ≡ n + 1
    one n = omega arith

    by : (a b p o : ℕ) → a + 12 * b + p * 12 * o ≡ a + 12 * (b + p * o)
    by a b p o = omega arith

-- if only the length of a text matters
pub only_length : (most : ℕ) (passes : List ℕ → Bool) (of_length : ℕ → Bool)
    → ((text : List ℕ) → passes text ≡ of_length (length text))
    → up_to most passes ≡ shorter (suc most) of_length
unfolding up_to shorter
only_length zero passes of_length h =
    ap one_if (h []) ∙ by ∙ sym (shorter_first zero of_length)
  where
    none : shorter 0 (λ n. of_length (suc n)) ≡ 0
    none = refl

    by : one_if (of_length 0) ≡ one_if (of_length 0) + 12 * shorter 0 (λ n. of_length (suc n))
    by = omega (arith, none)
only_length (suc most) passes of_length h =
    (λ i. one_if (h [] i) + sum_by (λ c. only_length most (λ rest. passes (c ∷ rest))
    (λ n. of_length (suc n)) (λ rest. h (c ∷ rest)) i) CHARACTERS)
    ∙ ap (λ n. one_if (of_length 0) + n)
    (twelve_times (shorter (suc most) (λ n. of_length (suc n))))
    ∙ sym (shorter_first (suc most) of_length)

-- there are less than 2 to the 126th texts
pub all_fit : 12 * all_shorter 32 < 2 ^ 126
unfolding all_shorter shorter
all_fit = omega arith

up_to_all : up_to 31 (λ text. true) ≡ shorter 32 (λ length. true)
up_to_all = only_length 31 (λ text. true) (λ length. true) (λ text. refl)

all_shorter_value : 12 * shorter 32 (λ length. true) ≡ 37289660931454747757856918508500060
unfolding shorter
all_shorter_value = refl

-- all texts of 1 to 32 characters
pub there_are_so_many : how_many (λ text. true) ≡ 37289660931454747757856918508500060
unfolding how_many
there_are_so_many =
    ap (λ n. sum_by (λ c. n) CHARACTERS) up_to_all
    ∙ twelve_times (shorter 32 (λ length. true)) ∙ all_shorter_value
