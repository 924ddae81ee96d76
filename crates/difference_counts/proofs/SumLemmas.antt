-- Sums over numbers, and over characters.
use Rattle.std.proofs.Common.{◌≡◌, ℕ, zero, suc, ◌+◌, ◌*◌, ◌<◌, ◌≤◌, ◌==◌, ◌⊎◌, inl, inr, Bool, true, false, cond, List, length, get_or, set, slice_get, refl, sym, ap, ◌∙◌, arith}
use Rattle.std.specs.Prelude.{Some}
use Rattle.std.specs.List.{sum_by}
use Rattle.std.proofs.lemmas.Bool.{cases_eq, eqb-true, eqb-false, ne_eqb}
use Rattle.std.proofs.lemmas.Grind.{get_or-set_at}
use Rattle.std.proofs.lemmas.List.{get_or-set_other}
use Rattle.std.proofs.lemmas.Bool.Decides.{nat_tests}
use Rattle.gk_terms.specs.Dialled.{is_dialled_byte}
use Rattle.difference_counts.specs.Numbers.{CHARACTERS, character_at, sum_to}
use Rattle.difference_counts.specs.Places.{has_at, is_just}

pub sum_to_none : (f : ℕ → ℕ) → sum_to 0 f ≡ 0
unfolding sum_to
sum_to_none f = refl

pub sum_to_more : (count : ℕ) (f : ℕ → ℕ) → sum_to (count + 1) f ≡ sum_to count f + f count
unfolding sum_to
sum_to_more count f = ap (λ n. sum_to n f) (one count)
  where
    one : (n : ℕ) → n + 1 ≡ suc n
    one n = omega arith

pub sum_to_same : (count : ℕ) (f g : ℕ → ℕ) → ((n : ℕ) → n < count → f n ≡ g n)
    → sum_to count f ≡ sum_to count g
unfolding sum_to
sum_to_same zero f g h = refl
sum_to_same (suc count) f g h =
    let before = sum_to_same count f g
    (λ n low. h n (let w : n < suc count = omega (arith, low) in w)) in
    let last = h count (let w : count < suc count = omega arith in w) in
    λ i. before i + last i

pub sum_to_both : (count : ℕ) (f g : ℕ → ℕ)
    → sum_to count (λ n. f n + g n) ≡ sum_to count f + sum_to count g
unfolding sum_to
sum_to_both zero f g = refl
sum_to_both (suc count) f g =
    let before = sum_to_both count f g in
    omega (arith, before)

pub sum_to_zeros : (count : ℕ) → sum_to count (λ n. 0) ≡ 0
unfolding sum_to
sum_to_zeros zero = refl
sum_to_zeros (suc count) =
    let before = sum_to_zeros count in
    omega (arith, before)

pub sum_to_times : (count k : ℕ) (f : ℕ → ℕ)
    → sum_to count (λ n. k * f n) ≡ k * sum_to count f
unfolding sum_to
sum_to_times zero k f = omega arith
sum_to_times (suc count) k f =
    let before = sum_to_times count k f in
    omega (arith, before)

-- of one summand and those before it
pub sum_to_within : (count k : ℕ) (f : ℕ → ℕ) → k < count
    → sum_to k f + f k ≤ sum_to count f
unfolding sum_to
sum_to_within zero k f h = absurd (omega (arith, h))
sum_to_within (suc count) k f h = by (k == count) refl (sum_to_within count k f)
  where
    by : (t : Bool) → (k == count) ≡ t → (k < count → sum_to k f + f k ≤ sum_to count f)
        → sum_to k f + f k ≤ sum_to count f + f count
    by true e before =
        let same : k ≡ count = eqb-true k count e in
        let whole : sum_to k f + f k ≡ sum_to count f + f count = ap (λ n. sum_to n f + f n) same in
        omega (arith, whole)
    by false e before =
        let low : k < count =
        (let other = eqb-false k count e in let w : k < count = omega (arith, h, other) in w) in
        let earlier = before low in
        omega (arith, earlier)

-- one summand alone
module _ (k v : ℕ) where
  none_before : (count : ℕ) → count ≤ k → sum_to count (λ n. cond (k == n) v 0) ≡ 0
  unfolding sum_to
  none_before zero h = refl
  none_before (suc count) h =
      let before = none_before count (let w : count ≤ k = omega (arith, h) in w) in
      let last : cond (k == count) v 0 ≡ 0 =
      ap (λ t. cond t v 0) (ne_eqb k count (λ e. omega (arith, h, e))) in
      omega (arith, before, last)

  pub sum_to_one : (count : ℕ) → k < count → sum_to count (λ n. cond (k == n) v 0) ≡ v
  unfolding sum_to
  sum_to_one zero h = absurd (omega (arith, h))
  sum_to_one (suc count) h = by (k == count) refl (sum_to_one count)
    where
      by : (t : Bool) → (k == count) ≡ t
          → (k < count → sum_to count (λ n. cond (k == n) v 0) ≡ v)
          → sum_to count (λ n. cond (k == n) v 0) + cond (k == count) v 0 ≡ v
      by true e earlier =
          let same : k ≡ count = eqb-true k count e in
          let before = none_before count (let w : count ≤ k = omega (arith, same) in w) in
          let last : cond (k == count) v 0 ≡ v = ap (λ t. cond t v 0) e in
          omega (arith, before, last)
      by false e earlier =
          let other = eqb-false k count e in
          let low : k < count = omega (arith, h, other) in
          let before = earlier low in
          let last : cond (k == count) v 0 ≡ 0 = ap (λ t. cond t v 0) e in
          omega (arith, before, last)

-- ---- characters
pub over_characters : (f : ℕ → ℕ)
    → sum_by f CHARACTERS ≡ sum_to 12 (λ n. f (character_at n))
unfolding sum_to
over_characters f = refl

-- a dialled character is one of them
module _ (v : ℕ) where
  abbrev once : ℕ → ℕ
  once b = sum_to 12 (λ n. cond (b == character_at n) v 0)

  is_once : (b : ℕ) → is_dialled_byte b ≡ true → once b ≡ v
  unfolding sum_to
  is_once b h = grind (arith, nat_tests)

  pub one_character : (text : List ℕ) (place b : ℕ) → slice_get text place ≡ Some b
      → is_dialled_byte b ≡ true
      → sum_to 12 (λ n. cond (has_at place (character_at n) text) v 0) ≡ v
  one_character text place b at h =
      (λ i. sum_to 12 (λ n. cond (is_just (character_at n) (at i)) v 0)) ∙ is_once b h

-- ---- flags
-- one more is set
pub flag_set : (flags : List Bool) (k : ℕ) (flag : Bool) (test : ℕ → Bool) → k < length flags
    → ((n : ℕ) → n < k → get_or flags n false ≡ test n) → flag ≡ test k → (n : ℕ) → n < k + 1
    → get_or (set flags k flag) n false ≡ test n
flag_set flags k flag test low before e n h = by (cases_eq n k)
  where
    by : (n ≡ k) ⊎ (n ≡ k → ⊥) → get_or (set flags k flag) n false ≡ test n
    by (inl same) = get_or-set_at flags k n flag false same low ∙ e ∙ ap test (sym same)
    by (inr other) =
        get_or-set_other flags k n flag false other
        ∙ before n (let w : n < k = omega (arith, h, other) in w)
