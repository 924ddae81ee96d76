-- How long a line of words is: no longer than a line that they were read from.
use Rattle.std.proofs.Common.{◌≡◌, ℕ, ◌+◌, ◌≤◌, Bool, true, false, cond, List, [], ◌∷◌, ◌++◌, length, length-append, refl, ap, arith, ⊎_elim}
use Rattle.std.specs.Prelude.{not, filter, flat_map}
use Rattle.std.specs.List.{slice_split, onto_first}
use Rattle.std.proofs.lemmas.Bool.{cases_Bool}
use Rattle.std.proofs.lemmas.List.Splits.{slice_split-cons_yes, slice_split-cons_no}
use Rattle.gk_terms.specs.Text.{is_blank, is_empty, words_of, spaced}

-- the bytes of words, and one after each
abbrev pub cost : List (List ℕ) → ℕ
cost [] = 0
cost (word ∷ words) = 1 + length word + cost words

pub cost-append : (words others : List (List ℕ)) → cost (words ++ others) ≡ cost words + cost others
cost-append [] others = omega arith
cost-append (word ∷ words) others = omega (arith, cost-append words others)

length_behind : (words : List (List ℕ)) → length (flat_map (λ next. 32 ∷ next) words) ≡ cost words
length_behind [] = refl
length_behind (word ∷ words) = omega (
  arith,
  length-append word
      (flat_map (λ next. 32 ∷ next) words),
  length_behind words,
)

-- words with a space between each two
pub length_spaced : (words : List (List ℕ)) → length (spaced words) ≤ cost words
length_spaced [] = omega arith
length_spaced (word ∷ words) = omega (
  arith,
  length-append word
      (flat_map (λ next. 32 ∷ next) words),
  length_behind words,
)

pub length_spaced_some : (word : List ℕ) (words : List (List ℕ)) → length (spaced (word ∷ words)) +
    1 ≡ cost (word ∷ words)
length_spaced_some word words = omega (
  arith,
  length-append word
      (flat_map (λ next. 32 ∷ next) words),
  length_behind words,
)

-- ---- words that are read
cost_kept : (words : List (List ℕ)) → cost (filter (λ word. not (is_empty word)) words) ≤ cost words
cost_kept [] = omega arith
cost_kept (word ∷ words) = by (cost_kept words) (not (is_empty word))
  where
    by : cost (filter (λ word. not (is_empty word)) words) ≤ cost words → (b : Bool) → cost
        (cond b (word ∷ filter (λ word. not (is_empty word)) words)
        (filter (λ word. not (is_empty word)) words)) ≤ cost (word ∷ words)
    by rest true = omega (arith, rest)
    by rest false = omega (arith, rest)

cost_onto : (b : ℕ) (parts : List (List ℕ)) (n : ℕ) → cost parts ≤ n → 1 ≤ n → cost
    (onto_first b parts) ≤ n + 1
cost_onto b [] n h k = omega (arith, k)
cost_onto b (part ∷ parts) n h k = omega (arith, h)

cost_split : (line : List ℕ) → cost (slice_split is_blank line) ≤ length line + 1
cost_split [] = omega arith
cost_split (b ∷ bs) =
    ⊎_elim
    (λ (blank : is_blank b ≡ true). omega (
      arith,
      cost_split bs,
      ap cost
          (slice_split-cons_yes is_blank b bs blank),
    ))
    (λ (other : is_blank b ≡ false).
    omega (
      arith,
      cost_onto b (slice_split is_blank bs) (length bs + 1) (cost_split bs)
          (omega arith),
      ap cost (slice_split-cons_no is_blank b bs other),
    ))
    (cases_Bool (is_blank b))

-- the words of a line
pub cost_read : (line : List ℕ) → cost (words_of line) ≤ length line + 1
cost_read line = omega (arith, cost_kept (slice_split is_blank line), cost_split line)
