-- Receipts that are confirmed one after another.
use Rattle.std.proofs.Common.{◌≡◌, ◌<◌, ◌≤◌, ℕ, suc, ◌+◌, List, [], ◌∷◌, ◌++◌, length, take, Some, sym, ap, subst, ◌∙◌, arith}
use Rattle.std.specs.Prelude.{slice_get, slice_index_or}
use Rattle.std.specs.List.{All}
use Rattle.std.proofs.Math.Seq.{take-suc}
use Rattle.std.proofs.lemmas.List.{take_all}
use Rattle.std.proofs.lemmas.List.Elements.{All-push}
use Rattle.std.proofs.lemmas.Option.{get_or_from_slice_get}

module _ {X : Type 0} (P : X → Type 0) (xs : List X) where
  -- one more element has the property
  pub all_more : (k : ℕ) (x : X) → k < length xs → x ≡ slice_index_or xs k x → All P (take k xs)
      → P x → All P (take (k + 1) xs)
  all_more k x within is all holds =
      let next : k + 1 ≡ suc k = omega arith in
      subst (All P)
      (sym (ap (λ n. take n xs) next ∙ take-suc xs k x within
      ∙ ap (λ y. take k xs ++ y ∷ []) (sym is)))
      (All-push P (take k xs) x all holds)

  -- all were looked at
  pub all_seen : (k : ℕ) → length xs ≤ k → All P (take k xs) → All P xs
  all_seen k whole all = subst (All P) (take_all k xs whole) all

-- the element at a place
module _ {X : Type 0} (xs : List X) where
  pub element_is : (k : ℕ) (x y : X) → x ≡ slice_index_or xs k x → slice_get xs k ≡ Some y → y ≡ x
  element_is k x y is there = sym (is ∙ get_or_from_slice_get xs k y x there)
