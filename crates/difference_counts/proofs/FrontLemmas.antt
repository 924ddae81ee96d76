-- Dialled digits that go on from a front.
use Rattle.std.proofs.Common.{◌≡◌, ℕ, zero, suc, ◌+◌, ◌-◌, ◌≤◌, ◌&&◌, true, nat_le, List, [], ◌∷◌, ◌++◌, length, length-append, take, drop, refl, ap, ◌∙◌, arith}
use Rattle.std.specs.Prelude.{Some, replicate}
use Rattle.std.specs.Bool.{then_some}
use Rattle.std.specs.List.{list_all}
use Rattle.std.proofs.lemmas.Bool.{and_parts}
use Rattle.std.proofs.lemmas.Bool.Decides.{nat_tests}
use Rattle.std.proofs.lemmas.List.{length-replicate, take-replicate, drop-replicate}
use Rattle.std.proofs.Math.Seq.{take-append-add}
use Rattle.gk_terms.specs.Dialled.{IsDialled, dialled_of, is_dialled_byte}
use Rattle.plan_difference.specs.Walk.{starred}

-- what is dialled is read
pub read_is : (text : List ℕ) → IsDialled text → dialled_of text ≡ Some text
read_is text h = ap (λ t. then_some t text) h

-- the characters of dialled digits are dialled
pub all_dialled : (text : List ℕ) → IsDialled text → list_all is_dialled_byte text ≡ true
all_dialled text h =
    (and_parts (nat_le 1 (length text) && nat_le (length text) 32) (list_all is_dialled_byte
    text) h).1

pub some_dialled : (text : List ℕ) → IsDialled text → 1 ≤ length text
some_dialled text h =
    by (length text) (and_parts (nat_le 1 (length text) && nat_le (length text) 32)
    (list_all is_dialled_byte text) h).0
  where
    by : (n : ℕ) → (nat_le 1 n && nat_le n 32) ≡ true → 1 ≤ n
    by n e = grind (arith, nat_tests)

dialled_by : (text : List ℕ) (count : ℕ) → length text ≡ count → 1 ≤ count → count ≤ 32
    → list_all is_dialled_byte text ≡ true → IsDialled text
dialled_by text count size some few all =
    λ i. (ap (λ n. nat_le 1 n && nat_le n 32) size ∙ by count some few) i && all i
  where
    by : (n : ℕ) → 1 ≤ n → n ≤ 32 → (nat_le 1 n && nat_le n 32) ≡ true
    by n e f = grind (arith, nat_tests)

all_append : (text more : List ℕ) → list_all is_dialled_byte text ≡ true
    → list_all is_dialled_byte more ≡ true → list_all is_dialled_byte (text ++ more) ≡ true
all_append [] more h g = g
all_append (c ∷ text) more h g =
    let parts = and_parts (is_dialled_byte c) (list_all is_dialled_byte text) h in
    λ i. parts.0 i && all_append text more parts.1 g i

-- ---- stars after a front
module _ (front : List ℕ) (stars : ℕ) (few : length front + stars ≤ 32) where
  -- the front over stars, as far as it goes
  pub starred_is : take (length front + stars) (front ++ drop (length front) (replicate 32 42))
      ≡ starred front stars
  starred_is =
      ap (λ rest. take (length front + stars) (front ++ rest)) (drop-replicate (length front) 32 42)
      ∙ take-append-add front (replicate (32 - length front) 42) stars
      ∙ ap (λ rest. front ++ rest)
      (take-replicate stars (32 - length front) 42 (omega (arith, few)))

  pub starred_dialled : IsDialled front → IsDialled (starred front stars)
  starred_dialled h =
      let some = some_dialled front h in
      dialled_by (starred front stars) (length front + stars)
      (length-append front (replicate stars 42)
      ∙ ap (λ n. length front + n) (length-replicate {A = ℕ} stars 42))
      (omega (arith, some)) few
      (all_append front (replicate stars 42) (all_dialled front h) (all_stars stars))
    where
      all_stars : (n : ℕ) → list_all is_dialled_byte (replicate n 42) ≡ true
      all_stars zero = refl
      all_stars (suc n) = all_stars n

  -- so where they are written
  pub written_is : (bytes target : List ℕ) → bytes ≡ front
      → target ≡ bytes ++ drop (length bytes) (replicate 32 42)
      → take (length bytes + stars) target ≡ starred front stars
  written_is bytes target e h =
      (λ i. take (length (e i) + stars)
      ((h ∙ (λ j. e j ++ drop (length (e j)) (replicate 32 42))) i))
      ∙ starred_is
