-- What one test finds in a list, and what that says of another test.
use Rattle.std.proofs.Common.{◌≡◌, Bool, true, false, cond, ◌&&◌, ◌||◌, List, [], ◌∷◌, find, refl, sym, ap, ◌∙◌}
use Rattle.std.specs.Prelude.{Option, Some, None, is_some}
use Rattle.std.specs.List.{list_any}
use Rattle.std.proofs.lemmas.Bool.{both_ways}
use Rattle.std.proofs.lemmas.Option.{none-some, same_Some}

-- whether one is found
pub is_some-find : {X : Type 0} (p : X → Bool) (xs : List X) → is_some (find p xs) ≡ list_any p xs
is_some-find p [] = refl
is_some-find p (x ∷ xs) = by (p x) (is_some-find p xs)
  where
    by : (b : Bool) → is_some (find p xs) ≡ list_any p xs
        → is_some (cond b (Some x) (find p xs)) ≡ (b || list_any p xs)
    by true rest = refl
    by false rest = rest

pub found-some : {X : Type 0} (p : X → Bool) (xs : List X) (x : X) → find p xs ≡ Some x
    → list_any p xs ≡ true
found-some p xs x h = sym (is_some-find p xs) ∙ ap is_some h

pub found-none : {X : Type 0} (p : X → Bool) (xs : List X) → find p xs ≡ None
    → list_any p xs ≡ false
found-none p xs h = sym (is_some-find p xs) ∙ ap is_some h

-- what one test finds passes no other test that finds nothing
pub missed : {X : Type 0} (p q : X → Bool) (xs : List X) (x : X) → find p xs ≡ Some x
    → find q xs ≡ None → q x ≡ false
missed p q [] x h k = absurd (none-some x h)
missed p q (y ∷ xs) x h k = by (p y) (q y) refl h k (missed p q xs x)
  where
    by : (b c : Bool) → q y ≡ c → cond b (Some y) (find p xs) ≡ Some x
        → cond c (Some y) (find q xs) ≡ None → (find p xs ≡ Some x → find q xs ≡ None → q x ≡ false)
        → q x ≡ false
    by b true f h k rest = absurd (none-some y (sym k))
    by true false f h k rest = ap q (sym (same_Some y x h)) ∙ f
    by false false f h k rest = rest h k

-- what one test finds passes another test, so that one passes
pub also_passes : {X : Type 0} (p q : X → Bool) (xs : List X) (x : X) → find p xs ≡ Some x
    → q x ≡ true
    → list_any q xs ≡ true
also_passes p q xs x h k = by (find q xs) refl
  where
    by : (found : Option _) → find q xs ≡ found → list_any q xs ≡ true
    by None e = absurd (both_ways (q x) (missed p q xs x h e) k)
    by (Some y) e = found-some q xs y e

-- ---- a test of pairs
none_any : {X : Type 0} (xs : List X) → list_any (λ x. false) xs ≡ false
none_any [] = refl
none_any (x ∷ xs) = none_any xs

-- either of two tests
either_any : {X : Type 0} (p q : X → Bool) (xs : List X)
    → list_any (λ x. p x || q x) xs ≡ (list_any p xs || list_any q xs)
either_any p q [] = refl
either_any p q (x ∷ xs) =
    ap (λ b. (p x || q x) || b) (either_any p q xs)
    ∙ regrouped (p x) (q x) (list_any p xs) (list_any q xs)
  where
    regrouped : (a b c d : Bool) → ((a || b) || (c || d)) ≡ ((a || c) || (b || d))
    regrouped true b c d = refl
    regrouped false true true d = refl
    regrouped false true false d = refl
    regrouped false false c d = refl

-- whether a pair passes, in either order of the two lists
pub any_pair : {X Y : Type 0} (p : X → Bool) (q : X → Y → Bool) (xs : List X) (ys : List Y)
    → list_any (λ x. p x && list_any (q x) ys) xs
    ≡ list_any (λ y. list_any (λ x. p x && q x y) xs) ys
any_pair p q [] ys = sym (none_any ys)
any_pair p q (x ∷ xs) ys =
    ap (λ b. (p x && list_any (q x) ys) || b) (any_pair p q xs ys)
    ∙ ap (λ b. b || list_any (λ y. list_any (λ z. p z && q z y) xs) ys) (under (p x))
    ∙ sym (either_any (λ y. p x && q x y) (λ y. list_any (λ z. p z && q z y) xs) ys)
  where
    under : (b : Bool) → (b && list_any (q x) ys) ≡ list_any (λ y. b && q x y) ys
    under true = refl
    under false = sym (none_any ys)
