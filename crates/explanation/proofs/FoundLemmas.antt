-- What is found in a list that is gone through one item at a time.
use Rattle.std.proofs.Common.{◌≡◌, ℕ, zero, suc, ◌+◌, ◌≤◌, List, [], ◌∷◌, ◌++◌, length, take, Some, None, refl, sym, ap, ◌∙◌, append_assoc, append-nil, arith}
use Rattle.std.specs.Prelude.{Option, IfSome, slice_get, flat_map}
use Rattle.std.specs.List.{cons_option}
use Rattle.std.proofs.lemmas.List.{flat_map_more, take_all}
use Rattle.explanation.specs.declared.steps.Candidate.{Candidate}
use Rattle.explanation.specs.Steps.{of_priority, ranked, ranked_below}

take_next : {X : Type 0} (xs : List X) (place : ℕ)
    → take (suc place) xs ≡ take place xs ++ cons_option (slice_get xs place) []
take_next [] zero = refl
take_next [] (suc place) = refl
take_next (y ∷ xs) zero = refl
take_next (y ∷ xs) (suc place) = ap (λ l. y ∷ l) (take_next xs place)

module _ {X : Type 0} (xs : List X) (place : ℕ) (x : X) (at : slice_get xs place ≡ Some x) where
  taken : take (place + 1) xs ≡ take place xs ++ x ∷ []
  taken =
      let one_more : place + 1 ≡ suc place = omega arith in
      ap (λ n. take n xs) one_more ∙ take_next xs place
      ∙ ap (λ o. take place xs ++ cons_option o []) at

  -- one item more
  pub found_more : {Y : Type 0} (f : X → List Y)
      → flat_map f (take place xs) ++ f x ≡ flat_map f (take (place + 1) xs)
  found_more f = flat_map_more f [] (take place xs) x ∙ ap (flat_map f) (sym taken)

  -- the same for what may not be known
  pub found_next : {U Y : Type 0} (o : Option U) (f : U → X → List Y) (list added new : List Y)
      → IfSome o (λ used. list ≡ flat_map (f used) (take place xs))
      → IfSome o (λ used. added ≡ f used x) → new ≡ list ++ added
      → IfSome o (λ used. new ≡ flat_map (f used) (take (place + 1) xs))
  found_next None f list added new before here more = before
  found_next (Some used) f list added new before here more =
      more ∙ ap (λ l. l ++ added) before
      ∙ ap (λ l. flat_map (f used) (take place xs) ++ l) here ∙ found_more (f used)

-- all of them
pub found_all : {U X Y : Type 0} (o : Option U) (f : U → X → List Y) (xs : List X) (place : ℕ)
    (list : List Y) → length xs ≤ place
    → IfSome o (λ used. list ≡ flat_map (f used) (take place xs))
    → IfSome o (λ used. list ≡ flat_map (f used) xs)
found_all None f xs place list within before = before
found_all (Some used) f xs place list within before =
    before ∙ ap (flat_map (f used)) (take_all place xs within)

-- ---- by priority
module _ (candidates : List Candidate) where
  pub ranked_next : (priority left : ℕ) (list new : List Candidate)
      → left ≡ suc priority → list ++ ranked_below left candidates ≡ ranked candidates
      → new ≡ list ++ of_priority candidates priority
      → new ++ ranked_below priority candidates ≡ ranked candidates
  ranked_next priority left list new one before more =
      ap (λ l. l ++ ranked_below priority candidates) more
      ∙ append_assoc list (of_priority candidates priority) (ranked_below priority candidates)
      ∙ ap (λ n. list ++ ranked_below n candidates) (sym one)
      ∙ before

  pub ranked_all : (left : ℕ) (list : List Candidate) → left ≡ 0
      → list ++ ranked_below left candidates ≡ ranked candidates → list ≡ ranked candidates
  ranked_all left list none before =
      sym (append-nil list) ∙ ap (λ n. list ++ ranked_below n candidates) (sym none) ∙ before
