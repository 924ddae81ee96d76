-- Choosing the first unbeaten element: by one pass, and as a relation.
use Rattle.std.proofs.Common.{◌≡◌, ℕ, zero, suc, ◌<◌, Bool, true, false, not, cond, ◌&&◌, ◌||◌, nat_lt, List, [], ◌∷◌, length, get_or, fold, Option, Some, None, is_some, slice_get, refl, sym, ap, ◌∙◌, arith, find}
use Rattle.std.specs.List.{list_any, position_or_len}
use Rattle.std.proofs.Math.Bool.{true≢false}
use Rattle.std.proofs.lemmas.Bool.Decides.{nat_tests}
use Rattle.std.proofs.lemmas.List.Folds.{find_at, list_any_at, list_any_none}
use Rattle.std.proofs.lemmas.List.Sums.{fails_before_first, position_or_len_is}
use Rattle.std.proofs.lemmas.Option.{get_or_from_slice_get, slice_get-get_or}
use Rattle.gk_terms.specs.Choice.{first_unbeaten, better, IsFirstUnbeaten}

-- an order that compares by a rank: if x beats z, each y is beaten by x or beats z
pub record IsRankOrder {X : Type 0} (beats : X → X → Bool) : Type 0 where
  pub irreflexive : (x : X) → beats x x ≡ false
  pub transitive : (x y z : X) → beats x y ≡ true → beats y z ≡ true → beats x z ≡ true
  pub splits : (x y z : X) → beats x z ≡ true → beats x y ≡ false → beats y z ≡ true

-- tests that agree find the same
find-agreeing : {X : Type 0} (p q : X → Bool) → ((x : X) → p x ≡ q x) → (xs : List X) → find p xs ≡
    find q xs
find-agreeing p q agree [] = refl
find-agreeing p q agree (x ∷ xs) = ap (λ b. cond b (Some x) (find p xs)) (agree x) ∙ ap
    (cond (q x) (Some x)) (find-agreeing p q agree xs)

-- what is found passes the test
pub find_passes : {X : Type 0} (p : X → Bool) (xs : List X) (x : X) → find p xs ≡ Some x → p x ≡
    true
find_passes p [] x h = cc
find_passes p (y ∷ ys) x h = by (p y) refl (find_passes p ys x) h
  where
    by : (b : Bool) → p y ≡ b → (find p ys ≡ Some x → p x ≡ true) → cond b (Some y) (find p ys) ≡
        Some x → p x ≡ true
    by true e rest h = cc
    by false e rest h = rest h

-- if p implies q, a list with an element that passes p has one that passes q
list_any-implied : {X : Type 0} (p q : X → Bool) → ((x : X) → p x ≡ true → q x ≡ true) →
    (xs : List X) → list_any p xs ≡ true → list_any q xs ≡ true
list_any-implied p q implies [] h = h
list_any-implied p q implies (x ∷ xs) h = by (p x) refl (list_any-implied p q implies xs) h
  where
    passed : (a b : Bool) → a ≡ true → (a || b) ≡ true
    passed true b e = refl
    passed false b e = cc

    later : (a b : Bool) → b ≡ true → (a || b) ≡ true
    later true b e = refl
    later false b e = e

    by : (b : Bool) → p x ≡ b → (list_any p xs ≡ true → list_any q xs ≡ true) → (b || list_any p xs)
        ≡ true → (q x || list_any q xs) ≡ true
    by true e rest h = passed (q x) (list_any q xs) (implies x e)
    by false e rest h = later (q x) (list_any q xs) (rest h)

module _ {X : Type 0} (beats : X → X → Bool) (order : IsRankOrder beats) where
  -- whether an element of the list beats y
  abbrev beaten : List X → X → Bool
  beaten xs y = list_any (λ z. beats z y) xs

  -- an element that another beats adds nothing to what the other beats
  absorbed : (x b : X) → beats x b ≡ true → (xs : List X) (y : X) →
      (beats b y || (beats x y || beaten xs y)) ≡ (beats x y || beaten xs y)
  absorbed x b h xs y = by (beats b y) (beats x y) refl refl
    where
      by : (s t : Bool) → beats b y ≡ s → beats x y ≡ t → (s || (t || beaten xs y)) ≡
          (t || beaten xs y)
      by false t e f = refl
      by true true e f = refl
      by true false e f = let g : beats x y ≡ true = order.transitive x b y h e in cc

  -- nor does one that does not beat the other
  kept : (x b : X) → beats x b ≡ false → (xs : List X) (y : X) →
      (beats b y || (beats x y || beaten xs y)) ≡ (beats b y || beaten xs y)
  kept x b h xs y = by (beats b y) (beats x y) refl refl
    where
      by : (s t : Bool) → beats b y ≡ s → beats x y ≡ t → (s || (t || beaten xs y)) ≡
          (s || beaten xs y)
      by true t e f = refl
      by false false e f = refl
      by false true e f = let g : beats b y ≡ true = order.splits x b y f h in cc

  -- the later element takes the place of the one that it beats
  takes_over : (b x : X) (xs : List X) → beats x b ≡ true → first_unbeaten beats (b ∷ x ∷ xs) ≡
      first_unbeaten beats (x ∷ xs)
  takes_over b x xs h = find-agreeing _ (λ y. not (beaten (x ∷ xs) y))
      (λ y. ap not (absorbed x b h xs y)) (b ∷ x ∷ xs) ∙ ap
      (λ t. cond (not (t || beaten xs b)) (Some b) (first_unbeaten beats (x ∷ xs))) h

  -- what beats an element beats each one that does not beat that element
  beats_along : (x b z : X) → beats x b ≡ false → beats z b ≡ true → beats z x ≡ true
  beats_along x b z h f = by (beats z x) refl
    where
      by : (t : Bool) → beats z x ≡ t → t ≡ true
      by true e = refl
      by false e = let g : beats x b ≡ true = order.splits z x b f e in cc

  -- a later element that does not beat the earlier one is not chosen
  passed_by : (b x : X) (xs : List X) → beats x b ≡ false → first_unbeaten beats (b ∷ x ∷ xs) ≡
      first_unbeaten beats (b ∷ xs)
  passed_by b x xs h =
      find-agreeing _ test (λ y. ap not (kept x b h xs y)) (b ∷ x ∷ xs) ∙ skipped
      (beats b b || beaten xs b) (λ e. ap (λ t. cond (not t) (Some x) (find test xs))
      (too (beats b x) (also (beats b b) (order.irreflexive b) e)))
    where
      test : X → Bool
      test y = not (beaten (b ∷ xs) y)

      also : (t : Bool) → t ≡ false → (t || beaten xs b) ≡ true → beaten xs x ≡ true
      also true e f = cc
      also false e f = list_any-implied (λ z. beats z b) (λ z. beats z x) (λ z. beats_along x b z h)
          xs f

      too : (t : Bool) → beaten xs x ≡ true → (t || beaten xs x) ≡ true
      too true e = refl
      too false e = e

      skipped : (t : Bool) {o r : Option X} → (t ≡ true → o ≡ r) → cond (not t) (Some b) o ≡ cond
          (not t) (Some b) r
      skipped true f = f refl
      skipped false f = refl

  better-beaten : (b x : X) → beats x b ≡ true → better beats (Some b) x ≡ Some x
  better-beaten b x h = rw h refl

  better-unbeaten : (b x : X) → beats x b ≡ false → better beats (Some b) x ≡ Some b
  better-unbeaten b x h = rw h refl

  step : (b x : X) (xs : List X) (t : Bool) → beats x b ≡ t → first_unbeaten beats (x ∷ xs) ≡ fold
      (better beats) (Some x) xs → first_unbeaten beats (b ∷ xs) ≡ fold (better beats) (Some b) xs →
      first_unbeaten beats (b ∷ x ∷ xs) ≡ fold (better beats) (better beats (Some b) x) xs
  step b x xs true e over on = takes_over b x xs e ∙ over ∙ ap (λ o. fold (better beats) o xs)
      (sym (better-beaten b x e))
  step b x xs false e over on = passed_by b x xs e ∙ on ∙ ap (λ o. fold (better beats) o xs)
      (sym (better-unbeaten b x e))

  -- a pass with a best element so far
  first_unbeaten-cons : (b : X) (xs : List X) → first_unbeaten beats (b ∷ xs) ≡ fold (better beats)
      (Some b) xs
  first_unbeaten-cons b [] = ap (λ t. cond (not (t || false)) (Some b) None) (order.irreflexive b)
  first_unbeaten-cons b (x ∷ xs) = step b x xs (beats x b) refl (first_unbeaten-cons x xs)
      (first_unbeaten-cons b xs)

  -- the first unbeaten element comes of one pass that keeps the best so far
  pub first_unbeaten-pass : (xs : List X) → first_unbeaten beats xs ≡ fold (better beats) None xs
  first_unbeaten-pass [] = refl
  first_unbeaten-pass (x ∷ xs) = first_unbeaten-cons x xs

  fold_better : (b : X) (xs : List X) → is_some (fold (better beats) (Some b) xs) ≡ true
  fold_better b [] = refl
  fold_better b (x ∷ xs) = by (beats x b) refl (fold_better x xs) (fold_better b xs)
    where
      by : (t : Bool) → beats x b ≡ t → is_some (fold (better beats) (Some x) xs) ≡ true → is_some
          (fold (better beats) (Some b) xs) ≡ true → is_some
          (fold (better beats) (better beats (Some b) x) xs) ≡ true
      by true e over on = ap (λ o. is_some (fold (better beats) o xs)) (better-beaten b x e) ∙ over
      by false e over on = ap (λ o. is_some (fold (better beats) o xs)) (better-unbeaten b x e) ∙ on

  -- none is unbeaten only if there is none
  pub first_unbeaten-none : (xs : List X) → first_unbeaten beats xs ≡ None → xs ≡ []
  first_unbeaten-none [] h = refl
  first_unbeaten-none (x ∷ xs) h = absurd (true≢false (sym (fold_better x xs) ∙ ap is_some
      (sym (first_unbeaten-pass (x ∷ xs)) ∙ h)))

-- what is chosen is the first unbeaten element
pub first_unbeaten-IsFirstUnbeaten : {X : Type 0} (beats : X → X → Bool) (xs : List X) (x : X) →
    first_unbeaten beats xs ≡ Some x → IsFirstUnbeaten beats xs x
first_unbeaten-IsFirstUnbeaten {X} beats xs x h = record {
  place = position_or_len test xs;
  stands = sym (find_at test xs) ∙ h;
  unbeaten = λ k d within. no_other (beats (get_or xs k d) x) refl
      (λ e. list_any_at (λ y. beats y x) xs k d within e);
  first = λ k z before e. some_other (list_any (λ y. beats y z) xs)
      (sym (ap test (get_or_from_slice_get xs k z x e)) ∙ fails_before_first test xs k x before);
}
  where
    test : X → Bool
    test y = not (list_any (λ z. beats z y) xs)

    no_other : (t : Bool) {s : Bool} → s ≡ t → (s ≡ true → list_any (λ y. beats y x) xs ≡ true) → s
        ≡ false
    no_other true e f = let g = find_passes test xs x h in let i = f e in cc
    no_other false e f = e

    some_other : (t : Bool) → not t ≡ false → t ≡ true
    some_other true e = refl
    some_other false e = cc

-- more of a number beats less of it
pub IsRankOrder-by : {X : Type 0} (rank : X → ℕ) → IsRankOrder {X = X}
    (λ x y. nat_lt (rank y) (rank x))
IsRankOrder-by rank = record {
  irreflexive = λ x. lower (rank x);
  transitive = λ x y z. chain (rank x) (rank y) (rank z);
  splits = λ x y z. split (rank x) (rank y) (rank z);
}
  where
    lower : (a : ℕ) → nat_lt a a ≡ false
    lower a = grind (arith, nat_tests)

    chain : (a b c : ℕ) → nat_lt b a ≡ true → nat_lt c b ≡ true → nat_lt c a ≡ true
    chain a b c h i = grind (arith, nat_tests)

    split : (a b c : ℕ) → nat_lt c a ≡ true → nat_lt b a ≡ false → nat_lt c b ≡ true
    split a b c h i = grind (arith, nat_tests)

-- an order on what is read of the elements
pub IsRankOrder-on : {X Y : Type 0} (read : Y → X) (beats : X → X → Bool) → IsRankOrder beats →
    IsRankOrder (λ y z. beats (read y) (read z))
IsRankOrder-on read beats order = record {
  irreflexive = λ x. order.irreflexive (read x);
  transitive = λ x y z. order.transitive (read x) (read y) (read z);
  splits = λ x y z. order.splits (read x) (read y) (read z);
}

-- the first order, and the second if neither element beats the other in the first
pub IsRankOrder-then : {X : Type 0} (first second : X → X → Bool) → IsRankOrder first → IsRankOrder
    second → IsRankOrder (λ x y. first x y || (not (first y x) && second x y))
IsRankOrder-then first second f s = record {
  irreflexive = λ x. neither (first x x) (second x x) (f.irreflexive x) (s.irreflexive x);
  transitive = λ x y z. chain (first x y) (first y x) (first y z) (first z y) (first x z)
      (first z x) (second x y) (second y z) (second x z) (f.transitive x y z) (f.splits x z y)
      (f.splits y x z) (f.splits z y x) (s.transitive x y z);
  splits = λ x y z. split (first x y) (first y x) (first y z) (first z y) (first x z) (first z x)
      (second x y) (second y z) (second x z) (f.splits x y z) (f.splits y z x) (f.splits z x y)
      (s.splits x y z);
}
  where
    neither : (a b : Bool) → a ≡ false → b ≡ false → (a || (not a && b)) ≡ false
    neither a b h i = grind arith

    chain : (xy yx yz zy xz zx sxy syz sxz : Bool) → (xy ≡ true → yz ≡ true → xz ≡ true) →
        (xy ≡ true → xz ≡ false → zy ≡ true) → (yz ≡ true → yx ≡ false → xz ≡ true) →
        (zx ≡ true → zy ≡ false → yx ≡ true) → (sxy ≡ true → syz ≡ true → sxz ≡ true) →
        (xy || (not yx && sxy)) ≡ true → (yz || (not zy && syz)) ≡ true → (xz || (not zx && sxz)) ≡
        true
    chain xy yx yz zy xz zx sxy syz sxz a b c d e h i = grind arith

    split : (xy yx yz zy xz zx sxy syz sxz : Bool) → (xz ≡ true → xy ≡ false → yz ≡ true) →
        (yx ≡ true → yz ≡ false → zx ≡ true) → (zy ≡ true → zx ≡ false → xy ≡ true) →
        (sxz ≡ true → sxy ≡ false → syz ≡ true) → (xz || (not zx && sxz)) ≡ true →
        (xy || (not yx && sxy)) ≡ false → (yz || (not zy && syz)) ≡ true
    split xy yx yz zy xz zx sxy syz sxz a b c d h i = grind arith

-- a place of an element is within the list
pub within_list : {X : Type 0} (xs : List X) (k : ℕ) (x : X) → slice_get xs k ≡ Some x → k < length
    xs
within_list [] k x h = cc
within_list (y ∷ ys) zero x h = omega arith
within_list (y ∷ ys) (suc k) x h = let rest = within_list ys k x h in omega arith

-- the relation says which element it is
pub first_unbeaten-from_relation : {X : Type 0} (beats : X → X → Bool) (xs : List X) (x : X) →
    IsFirstUnbeaten beats xs x → first_unbeaten beats xs ≡ Some x
first_unbeaten-from_relation {X} beats xs x h =
    let within : h.place < length xs = within_list xs h.place x h.stands in
    find_at test xs ∙ ap (slice_get xs) (position_or_len_is test xs h.place x (omega arith)
    (fails within) (λ _. passes)) ∙ h.stands
  where
    test : X → Bool
    test y = not (list_any (λ z. beats z y) xs)

    fails : h.place < length xs → (k : ℕ) → k < h.place → test (get_or xs k x) ≡ false
    fails within k before = ap not (h.first k (get_or xs k x) before
        (slice_get-get_or xs k x (omega arith)))

    passes : test (get_or xs h.place x) ≡ true
    passes = ap test (get_or_from_slice_get xs h.place x x h.stands) ∙ ap not
        (list_any_none (λ z. beats z x) xs h.unbeaten)
