-- Choices from a list: the order in the list decides between equals.
use Rattle.std.specs.Prelude.{◌≡◌, ℕ, ◌<◌, Bool, true, false, not, List, Option, Some, None, slice_get, find}
use Rattle.std.specs.List.{list_any, All}

-- the first element that no element beats
abbrev pub first_unbeaten : {X : Type 0} → (X → X → Bool) → List X → Option X
first_unbeaten beats xs = find (λ x. not (list_any (λ y. beats y x) xs)) xs

-- the same as a relation: no element beats x, and some element beats each one before x
pub record IsFirstUnbeaten {X : Type 0} (beats : X → X → Bool) (xs : List X) (x : X) : Type 0 where
  pub place : ℕ
  pub stands : slice_get xs place ≡ Some x
  pub unbeaten : All (λ y. beats y x ≡ false) xs
  pub first : (k : ℕ) (z : X) → k < place → slice_get xs k ≡ Some z
      → list_any (λ y. beats y z) xs ≡ true

-- the one of two that is kept when a list is gone through once: the later only if it beats the
-- earlier
abbrev pub better : {X : Type 0} → (X → X → Bool) → Option X → X → Option X
better beats None x = Some x
better beats (Some best) x = if_beaten (beats x best) x best
  where
    if_beaten : {X : Type 0} → Bool → X → X → Option X
    if_beaten true x best = Some x
    if_beaten false x best = Some best
