-- Lists that are gone through one item at a time, and their text.
use Rattle.std.proofs.Common.{◌≡◌, ◌+◌, ℕ, zero, suc, List, [], ◌∷◌, ◌++◌, take, drop, refl, sym, ap, ◌∙◌, append_assoc, append-nil, arith}
use Rattle.std.specs.Prelude.{Some, slice_get}
use Rattle.std.specs.List.{All, cons_option, flat_map}
use Rattle.std.proofs.lemmas.List.{take-append-drop}
use Rattle.std.proofs.lemmas.List.Concat.{flat_map-append}
use Rattle.std.proofs.lemmas.List.Elements.{All-push, All-same}

-- ---- one item more
module _ {X : Type 0} (front next : List X) (x : X) (more : next ≡ front ++ x ∷ []) where
  -- what holds of those before it and of it holds of those up to it
  pub all_next : (P : X → Type 0) → All P front → P x → All P next
  all_next P before one = All-same P next (front ++ x ∷ []) more (All-push P front x before one)

  module _ (said : X → List ℕ) (before : List ℕ) where
    -- its text
    pub said_next : (before ++ flat_map said front) ++ said x ≡ before ++ flat_map said next
    said_next =
        append_assoc before (flat_map said front) (said x)
        ∙ ap (λ text. before ++ (flat_map said front ++ text)) (sym (append-nil (said x)))
        ∙ ap (λ text. before ++ text) (sym (flat_map-append said front (x ∷ [])))
        ∙ ap (λ l. before ++ flat_map said l) (sym more)

    -- its text begins what is left of the whole
    pub said_in : (all rest : List X) → all ≡ next ++ rest
        → ((before ++ flat_map said front) ++ said x) ++ flat_map said rest
        ≡ before ++ flat_map said all
    said_in all rest whole =
        ap (λ text. text ++ flat_map said rest) said_next
        ∙ append_assoc before (flat_map said next) (flat_map said rest)
        ∙ ap (λ text. before ++ text) (sym (flat_map-append said next rest))
        ∙ ap (λ l. before ++ flat_map said l) (sym whole)

-- ---- the item at a place
take_next : {X : Type 0} (xs : List X) (place : ℕ)
    → take (suc place) xs ≡ take place xs ++ cons_option (slice_get xs place) []
take_next [] zero = refl
take_next [] (suc place) = refl
take_next (y ∷ xs) zero = refl
take_next (y ∷ xs) (suc place) = ap (λ l. y ∷ l) (take_next xs place)

module _ {X : Type 0} (xs : List X) (place : ℕ) where
  one_more : place + 1 ≡ suc place
  one_more = omega arith

  -- those up to it
  pub taken_next : take (place + 1) xs ≡ take place xs ++ cons_option (slice_get xs place) []
  taken_next = ap (λ n. take n xs) one_more ∙ take_next xs place

  -- begin the whole
  pub begin_next : (rest : List X) × (xs ≡ take (place + 1) xs ++ rest)
  begin_next = (drop (place + 1) xs, sym (take-append-drop (place + 1) xs))

module _ {X : Type 0} (said : X → List ℕ) (before : List ℕ) (xs : List X) (place : ℕ) (x : X)
    (at : slice_get xs place ≡ Some x) where
  taken : take (place + 1) xs ≡ take place xs ++ x ∷ []
  taken = taken_next xs place ∙ ap (λ o. take place xs ++ cons_option o []) at

  -- the text of one item more
  pub said_more : (before ++ flat_map said (take place xs)) ++ said x
      ≡ before ++ flat_map said (take (place + 1) xs)
  said_more = said_next (take place xs) (take (place + 1) xs) x taken said before

  -- the text of an item begins what is left of the whole
  pub said_in_all : ((before ++ flat_map said (take place xs)) ++ said x)
      ++ flat_map said (drop (suc place) xs) ≡ before ++ flat_map said xs
  said_in_all =
      said_in (take place xs) (take (place + 1) xs) x taken said before xs (drop (suc place) xs)
      (sym (take-append-drop (place + 1) xs)
      ∙ ap (λ n. take (place + 1) xs ++ drop n xs) (one_more xs place))
