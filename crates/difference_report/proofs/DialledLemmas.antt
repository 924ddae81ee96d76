-- Dialled digits and what is left of them.
use Rattle.std.proofs.Common.{◌≡◌, ℕ, zero, suc, ◌&&◌, ◌||◌, ◌+◌, ◌≤◌, Bool, true, false, nat_le, List, [], ◌∷◌, ◌++◌, length, length-append, drop, refl, sym, ap, ◌∙◌, arith, true≢false}
use Rattle.std.specs.Prelude.{replicate}
use Rattle.std.specs.List.{list_all}
use Rattle.std.proofs.lemmas.Bool.{and_parts, and_from}
use Rattle.std.proofs.lemmas.Bool.Decides.{nat_tests}
use Rattle.std.proofs.lemmas.List.{length-replicate}
use Rattle.std.proofs.lemmas.List.Folds.{list_all-append}
use Rattle.gk_terms.specs.declared.limits.TheConstants.{MOST_DIALLED}
use Rattle.gk_terms.specs.Dialled.{IsDialled, is_dialled, is_dialled_byte}
use Rattle.gk_terms.specs.Text.{is_empty}
use Rattle.plan_difference.specs.Walk.{starred}
use Rattle.difference_report.specs.Lengths.{is_rest}

pub all_stars : (count : ℕ) → list_all is_dialled_byte (replicate count 42) ≡ true
all_stars zero = refl
all_stars (suc count) = all_stars count

le_true : (n m : ℕ) → n ≤ m → nat_le n m ≡ true
le_true n m h = by (nat_le n m) refl
  where
    by : (t : Bool) → nat_le n m ≡ t → t ≡ true
    by true e = refl
    by false e = let bad : ⊥ = grind (arith, nat_tests) in absurd bad

-- what dialled digits are
record IsSpelled (text : List ℕ) : Type 0 where
  pub some : 1 ≤ length text
  pub few : length text ≤ 32
  pub all : list_all is_dialled_byte text ≡ true

is_spelled : (text : List ℕ) → IsDialled text → IsSpelled text
is_spelled text h =
    by (nat_le 1 (length text)) refl (nat_le (length text) MOST_DIALLED) refl
    (list_all is_dialled_byte text) refl h
  where
    by : (low : Bool) → nat_le 1 (length text) ≡ low
        → (high : Bool) → nat_le (length text) MOST_DIALLED ≡ high
        → (all : Bool) → list_all is_dialled_byte text ≡ all
        → (low && high && all) ≡ true → IsSpelled text
    by true e true f true g k =
        let most : nat_le (length text) 32 ≡ true = f in
        record {
          some = grind (arith, nat_tests);
          few = grind (arith, nat_tests);
          all = g;
        }
    by true e true f false g k = absurd (true≢false (sym k))
    by true e false f all g k = absurd (true≢false (sym k))
    by false e high f all g k = absurd (true≢false (sym k))

are_dialled : (text : List ℕ) → 1 ≤ length text → length text ≤ 32
    → list_all is_dialled_byte text ≡ true → IsDialled text
are_dialled text some few all =
    (λ i. le_true 1 (length text) some i && le_true (length text) MOST_DIALLED few i && all i)

-- what is left of them after a front is nothing or dialled digits
pub rest_is : (front rest : List ℕ) → IsDialled (front ++ rest) → is_rest rest ≡ true
rest_is front [] h = refl
rest_is front (c ∷ rest) h =
    later (is_empty (c ∷ rest)) (is_dialled (c ∷ rest))
    (are_dialled (c ∷ rest) (omega arith) (omega (arith, high, size))
    (and_parts (list_all is_dialled_byte front) (list_all is_dialled_byte (c ∷ rest))
    (sym (list_all-append is_dialled_byte front (c ∷ rest)) ∙ whole.all)).1)
  where
    later : (a b : Bool) → b ≡ true → (a || b) ≡ true
    later true b e = refl
    later false b e = e

    whole : IsSpelled (front ++ c ∷ rest)
    whole = is_spelled (front ++ c ∷ rest) h

    high : length (front ++ c ∷ rest) ≤ 32
    high = whole.few

    size : length (front ++ c ∷ rest) ≡ length front + length (c ∷ rest)
    size = length-append front (c ∷ rest)

-- with fewer stars after a front they are dialled digits too
pub fewer_stars : (front : List ℕ) (count more : ℕ) → count ≤ more → 1 ≤ length front
    → IsDialled (starred front more) → IsDialled (starred front count)
fewer_stars front count more low some h =
    are_dialled (starred front count) (omega (arith, some, size))
    (omega (arith, low, high, size, greater))
    (list_all-append is_dialled_byte front (replicate count 42)
    ∙ and_from (list_all is_dialled_byte front) (list_all is_dialled_byte (replicate count 42))
    (and_parts (list_all is_dialled_byte front) (list_all is_dialled_byte (replicate more 42))
    (sym (list_all-append is_dialled_byte front (replicate more 42)) ∙ whole.all)).0
    (all_stars count))
  where
    whole : IsSpelled (starred front more)
    whole = is_spelled (starred front more) h

    high : length (starred front more) ≤ 32
    high = whole.few

    size_with : (n : ℕ) → length (starred front n) ≡ length front + n
    size_with n =
        length-append front (replicate n 42)
        ∙ ap (λ m. length front + m) (length-replicate {A = ℕ} n 42)

    size : length (starred front count) ≡ length front + count
    size = size_with count

    greater : length (starred front more) ≡ length front + more
    greater = size_with more

-- ---- nothing is left after all
pub drop_all : {X : Type 0} (xs : List X) → drop (length xs) xs ≡ []
drop_all [] = refl
drop_all (x ∷ xs) = drop_all xs

-- a test of what is left
pub nothing_left : (test : List ℕ → Bool) (digits text : List ℕ) → is_empty text ≡ true
    → test (drop (length digits) digits) ≡ (is_rest text && test text)
nothing_left test digits [] h = ap test (drop_all digits)
nothing_left test digits (c ∷ text) h =
    let bad : ⊥ = grind (arith, nat_tests) in absurd bad
