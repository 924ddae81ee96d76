-- Steps of loops over places of a list.
use Rattle.std.proofs.Common.{◌≡◌, ℕ, zero, suc, ◌==◌, ◌<◌, ◌≤◌, ◌+◌, Bool, true, false, ◌||◌, List, [], ◌∷◌, length, take, fold, get_or, refl, ap, sym, ◌∙◌, subst, arith}
use Rattle.std.proofs.lemmas.Bool.Decides.{nat_tests}
use Rattle.std.proofs.lemmas.List.Folds.{list_any_more}
use Rattle.std.proofs.lemmas.List.Sums.{fold_more}
use Rattle.std.proofs.lemmas.Option.{slice_get-get_or}
use Rattle.std.specs.List.{list_any}
use Rattle.std.specs.Prelude.{IfSome, Option, Some, None, slice_get, unwrap_or}
use Rattle.difference_report.specs.Lengths.{any_below, least_below, or_this}

-- what holds of the element at a place, if there is one
pub at_place : {X : Type 0} (P : X → Type 0) (xs : List X) (i : ℕ) (d : X)
    → i < length xs → IfSome (slice_get xs i) P → P (get_or xs i d)
at_place P xs i d within holds =
    subst (λ o. IfSome o P) (slice_get-get_or xs i d within) holds

-- what holds at a place at which there is an element
pub there : {X : Type 0} (P : Type 0) (xs : List X) (i : ℕ) → i < length xs
    → IfSome (slice_get xs i) (λ x. P) → P
there P [] i within holds = absurd (omega (arith, within))
there P (x ∷ xs) i within holds = at_place (λ e. P) (x ∷ xs) i x within holds

-- one more element of a fold
pub stepped : {X Y : Type 0} (f : Y → X → Y) (a : Y) (xs : List X) (i : ℕ) (y next : Y)
    → i < length xs → y ≡ fold f a (take i xs)
    → IfSome (slice_get xs i) (λ x. next ≡ f y x)
    → next ≡ fold f a (take (i + 1) xs)
stepped f a [] i y next within is step = absurd (omega (arith, within))
stepped f a (x ∷ xs) i y next within is step =
    at_place (λ e. next ≡ f y e) (x ∷ xs) i x within step
    ∙ ap (λ z. f z (get_or (x ∷ xs) i x)) is
    ∙ sym (fold_more f a (x ∷ xs) i x within)

-- one more element that may pass a test
pub tested : {X : Type 0} (p : X → Bool) (xs : List X) (i : ℕ) (found next : Bool)
    → i < length xs → found ≡ list_any p (take i xs)
    → IfSome (slice_get xs i) (λ x. next ≡ (found || p x))
    → next ≡ list_any p (take (i + 1) xs)
tested p [] i found next within is step = absurd (omega (arith, within))
tested p (x ∷ xs) i found next within is step =
    at_place (λ e. next ≡ (found || p e)) (x ∷ xs) i x within step
    ∙ ap (λ b. b || p (get_or (x ∷ xs) i x)) is
    ∙ sym (list_any_more p (x ∷ xs) i x within)

-- a number below this one that passes
pub any_at : (test : ℕ → Bool) (count most : ℕ) → count < most → test count ≡ true
    → any_below test most ≡ true
any_at test count zero low h = absurd (omega (arith, low))
any_at test count (suc most) low h =
    by (count == most) refl (λ lower. any_at test count most lower h)
  where
    last : (c d : Bool) → d ≡ true → (c || d) ≡ true
    last true d e = refl
    last false d e = e

    by : (t : Bool) → (count == most) ≡ t → (count < most → any_below test most ≡ true)
        → (any_below test most || test most) ≡ true
    by true e rest =
        let same : count ≡ most = grind (arith, nat_tests) in
        last (any_below test most) (test most) (ap test (sym same) ∙ h)
    by false e rest =
        let lower : count < most = grind (arith, nat_tests) in
        ap (λ t. t || test most) (rest lower)

-- ---- the least number that passes
module _ (test : ℕ → Bool) where
  -- what is found passes, and is below the bound
  found_passes : (most found : ℕ) → least_below test most ≡ Some found
      → (test found ≡ true) × (found < most)
  found_passes zero found e = absurd (let bad : ⊥ = cc in bad)
  found_passes (suc most) found e =
      by (least_below test most) refl (test most) refl e (found_passes most found)
    where
      by : (o : Option ℕ) → least_below test most ≡ o → (t : Bool) → test most ≡ t
          → or_this o t most ≡ Some found
          → (least_below test most ≡ Some found → (test found ≡ true) × (found < most))
          → (test found ≡ true) × (found < suc most)
      by (Some lower) f t g h rest =
          let there = rest (f ∙ h) in
          let low = there.1 in
          (there.0, omega (arith, low))
      by None f true g h rest =
          let same : most ≡ found = ap (λ o. unwrap_or o most) h in
          (ap test (sym same) ∙ g, omega (arith, same))
      by None f false g h rest = absurd (let bad : ⊥ = cc in bad)

  -- a number that passes, below which none does
  pub least_at : (count most : ℕ) → count < most → least_below test count ≡ None
      → test count ≡ true → least_below test most ≡ Some count
  least_at count zero low none h = absurd (omega (arith, low))
  least_at count (suc most) low none h =
      by (count == most) refl (λ lower. least_at count most lower none h)
    where
      by : (t : Bool) → (count == most) ≡ t
          → (count < most → least_below test most ≡ Some count)
          → or_this (least_below test most) (test most) most ≡ Some count
      by true e rest =
          let same : count ≡ most = grind (arith, nat_tests) in
          subst (λ m. or_this (least_below test m) (test m) m ≡ Some count) same
          (λ i. or_this (none i) (h i) count)
      by false e rest =
          let lower : count < most = grind (arith, nat_tests) in
          ap (λ o. or_this o (test most) most) (rest lower)

  -- the least one below a bound is no greater than one that passes
  pub record IsLeast (most count : ℕ) : Type 0 where
    pub one : ℕ
    pub is : least_below test most ≡ Some one
    pub passes : test one ≡ true
    pub low : one ≤ count

  pub least_of : (count most : ℕ) → count < most → test count ≡ true → IsLeast most count
  least_of count zero low h = absurd (omega (arith, low))
  least_of count (suc most) low h =
      by (count == most) refl (λ lower. least_of count most lower h)
    where
      last : count ≡ most → (o : Option ℕ) → least_below test most ≡ o → IsLeast (suc most) count
      last same (Some found) f =
          let there = found_passes most found f in
          let under = there.1 in
          record {
            one = found;
            is = ap (λ o. or_this o (test most) most) f;
            passes = there.0;
            low = omega (arith, under, same);
          }
      last same None f =
          let passes : test most ≡ true = ap test (sym same) ∙ h in
          record {
            one = most;
            is = λ i. or_this (f i) (passes i) most;
            passes = passes;
            low = omega (arith, same);
          }

      by : (t : Bool) → (count == most) ≡ t → (count < most → IsLeast most count)
          → IsLeast (suc most) count
      by true e rest =
          let same : count ≡ most = grind (arith, nat_tests) in
          last same (least_below test most) refl
      by false e rest =
          let lower : count < most = grind (arith, nat_tests) in
          let below = rest lower in
          record {
            one = below.one;
            is = ap (λ o. or_this o (test most) most) below.is;
            passes = below.passes;
            low = below.low;
          }
