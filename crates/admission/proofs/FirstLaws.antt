-- What a search of a list finds is the first element with a property.
use Rattle.std.proofs.Common.{◌≡◌, Bool, true, false, cond, ◌||◌, List, [], ◌∷◌, find, Option, Some, None, option_map, refl, sym, ap, subst, ◌∙◌, true≢false}
use Rattle.std.specs.List.{All, list_any}
use Rattle.std.proofs.lemmas.List.Elements.{All-nil, All-cons}
use Rattle.std.proofs.lemmas.Option.{none-some}
use Rattle.admission.specs.RouteLaws.{IsFirst}

-- ---- the first of a list
pub untrue : (t : Bool) → t ≡ false → ¬ (t ≡ true)
untrue t e f = true≢false (sym f ∙ e)

-- nothing was found, so nothing is there
pub nothing : {X Y : Type 0} (f : X → Y) (o : Option X) → option_map f o ≡ None → o ≡ None
nothing f None h = refl
nothing f (Some x) h = cc

module _ {X : Type 0} (p : X → Bool) where
  -- one passes, so one is found
  pub find_some : (xs : List X) → list_any p xs ≡ true → find p xs ≡ None → ⊥
  find_some [] h e = true≢false (sym h)
  find_some (x ∷ xs) h e = by (p x) (find_some xs) h e
    where
      by : (t : Bool) → (list_any p xs ≡ true → find p xs ≡ None → ⊥) → (t || list_any p xs) ≡ true
          → cond t (Some x) (find p xs) ≡ None → ⊥
      by true rest h e = none-some x (sym e)
      by false rest h e = rest h e

module _ {X : Type 0} (p : X → Bool) (Has : X → Type 0) (told : (x : X) → p x ≡ true → Has x)
    (untold : (x : X) → p x ≡ false → ¬ Has x) where
  -- what is found is the first with the property that the test tells
  pub found_first : (xs : List X) (x : X) → find p xs ≡ Some x → IsFirst Has xs x
  found_first [] x h = absurd (none-some x h)
  found_first (y ∷ ys) x h = by (p y) refl (found_first ys x) h
    where
      by : (t : Bool) → p y ≡ t → (find p ys ≡ Some x → IsFirst Has ys x)
          → cond t (Some y) (find p ys) ≡ Some x → IsFirst Has (y ∷ ys) x
      by true e rest h =
          let same : y ≡ x = cc in
          record {
            before = [];
            after = ys;
            stands = ap (λ z. z ∷ ys) same;
            has =
                subst Has same (told y e);
            none_before = All-nil (λ z. ¬ Has z);
          }
      by false e rest h =
          let first = rest h in
          record {
            before = y ∷ first.before;
            after = first.after;
            stands = ap (λ zs. y ∷ zs) first.stands;
            has = first.has;
            none_before = All-cons (λ z. ¬ Has z) y first.before (untold y e) first.none_before;
          }

  -- none is found only if none has it
  pub found_none : (xs : List X) → find p xs ≡ None → All (λ x. ¬ Has x) xs
  found_none [] h = All-nil (λ x. ¬ Has x)
  found_none (y ∷ ys) h = by (p y) refl (found_none ys) h
    where
      by : (t : Bool) → p y ≡ t → (find p ys ≡ None → All (λ x. ¬ Has x) ys)
          → cond t (Some y) (find p ys) ≡ None → All (λ x. ¬ Has x) (y ∷ ys)
      by true e rest h = absurd (none-some y (sym h))
      by false e rest h = All-cons (λ x. ¬ Has x) y ys (untold y e) (rest h)
