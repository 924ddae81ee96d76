-- Texts that go on otherwise than any literals or prefix does: the same of these begin them.
use Rattle.std.proofs.Common.{◌≡◌, ℕ, zero, suc, ◌==◌, ◌&&◌, ◌≤◌, Bool, true, false, cond, List, [], ◌∷◌, ◌++◌, length, filter, slice_get, refl, sym, ap, ◌∙◌, arith, true≢false}
use Rattle.std.specs.Prelude.{Some, replicate}
use Rattle.std.specs.List.{starts_with}
use Rattle.gk_terms.specs.Choice.{first_unbeaten}
use Rattle.digit_patterns.specs.PatternParts.{PatternParts}
use Rattle.digit_patterns.specs.Pattern.{has_count}
use Rattle.digit_patterns.specs.Table.{best_of, row_matches, ranks_above}
use Rattle.plan_difference.specs.Gathered.{is_no_star, has_no_star}
use Rattle.plan_difference.specs.Walk.{starred}

-- whether a text begins with another one
abbrev pub begins : List ℕ → List ℕ → Bool
begins text front = starts_with ◌==◌ text front

-- ---- beginnings
-- past the front, only what is no longer begins both
pub same_begins : (l u z : List ℕ) (count : ℕ) → has_no_star l ≡ true
    → (begins (u ++ z) l ≡ true → length l ≤ length u)
    → begins (u ++ z) l ≡ begins (starred u count) l
same_begins [] u z count h short = refl
same_begins (c ∷ l) [] z count h short = by (begins z (c ∷ l)) refl
  where
    stars : (n : ℕ) → is_no_star c ≡ true → begins (replicate n 42) (c ∷ l) ≡ false
    stars zero e = refl
    stars (suc n) e = one (c == 42) e refl
      where
        one : (t : Bool) → cond t false true ≡ true → (c == 42) ≡ t
            → (t && starts_with ◌==◌ (replicate n 42) l) ≡ false
        one true g f = absurd (true≢false (sym g))
        one false g f = refl

    by : (t : Bool) → begins z (c ∷ l) ≡ t → begins z (c ∷ l) ≡ begins (replicate count 42) (c ∷ l)
    by true e = let long : suc (length l) ≤ 0 = short e in absurd (omega (arith, long))
    by false e = e ∙ sym (stars count (first (is_no_star c) (has_no_star l) h))
      where
        first : (a b : Bool) → (a && b) ≡ true → a ≡ true
        first true b e = refl
        first false b e = e
same_begins (c ∷ l) (x ∷ u) z count h short =
    by (c == x) refl (same_begins l u z count (second (is_no_star c) (has_no_star l) h))
  where
    second : (a b : Bool) → (a && b) ≡ true → b ≡ true
    second true b e = e
    second false b e = absurd (true≢false (sym e))

    by : (t : Bool) → (c == x) ≡ t
        → ((begins (u ++ z) l ≡ true → length l ≤ length u)
        → begins (u ++ z) l ≡ begins (starred u count) l)
        → (t && begins (u ++ z) l) ≡ (t && begins (starred u count) l)
    by true e rest =
        rest (λ g. let long : suc (length l) ≤ suc (length u) =
        short (ap (λ t. t && begins (u ++ z) l) e ∙ g) in omega (arith, long))
    by false e rest = refl

-- ---- filters
pub same_filter : {X : Type 0} (f g : X → Bool) (xs : List X)
    → ((place : ℕ) (x : X) → slice_get xs place ≡ Some x → f x ≡ g x)
    → filter f xs ≡ filter g xs
same_filter f g [] h = refl
same_filter f g (x ∷ xs) h =
    (λ i. cond (h 0 x refl i) (x ∷ same_filter f g xs (λ place y at. h (suc place) y at) i)
    (same_filter f g xs (λ place y at. h (suc place) y at) i))

-- the row of the longest pattern that matches, if all literals that begin the text are in its front
pub same_best : {V : Type 0} (rows : List (PatternParts × V)) (u z : List ℕ)
    → ((place : ℕ) (row : PatternParts × V) → slice_get rows place ≡ Some row
    → (has_no_star row.0.literals ≡ true)
    × (begins (u ++ z) row.0.literals ≡ true → length row.0.literals ≤ length u))
    → best_of rows (u ++ z) ≡ best_of rows (starred u (length z))
same_best rows u z h =
    ap (first_unbeaten ranks_above)
    (same_filter (row_matches (u ++ z)) (row_matches (starred u (length z))) rows
    (λ place row at. let p = h place row at in
    λ i. same_begins row.0.literals u z (length z) p.0 p.1 i && has_count row.0 (same_length i)))
  where
    same_length : length (u ++ z) ≡ length (starred u (length z))
    same_length = lengths u
      where
        stars : (n : ℕ) → length {A = ℕ} (replicate n 42) ≡ n
        stars zero = refl
        stars (suc n) = ap suc (stars n)

        lengths : (u : List ℕ) → length (u ++ z) ≡ length (starred u (length z))
        lengths [] = sym (stars (length z))
        lengths (x ∷ u) = ap suc (lengths u)
