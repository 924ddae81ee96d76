-- Lists of which each element is told by a look-up in another.
use Rattle.std.proofs.Common.{◌≡◌, ℕ, zero, suc, ◌+◌, ◌<◌, List, [], ◌∷◌, ◌++◌, length, map, slice_get, refl, sym, ap, ap₂, ◌∙◌, inl, inr, arith}
use Rattle.std.specs.Prelude.{Bool, true, Option, Some, None, if◌then◌else◌}
use Rattle.std.specs.Option.{option_and_then, option_map}
use Rattle.std.specs.List.{cons_option, filter_map, list_all}
use Rattle.std.proofs.lemmas.Bool.{and_parts, cases_lt}
use Rattle.std.proofs.lemmas.Option.{none-some, same_Some, slice_get-map, slice_get_past, slice_get_within}
use Rattle.std.proofs.lemmas.List.{length-map, map-append}

-- ---- places
module _ {X : Type 0} where
  item_in_front : (xs ys : List X) (k : ℕ) → k < length xs
      → slice_get (xs ++ ys) k ≡ slice_get xs k
  item_in_front [] ys k within = absurd (omega arith)
  item_in_front (x ∷ xs) ys zero within = refl
  item_in_front (x ∷ xs) ys (suc k) within = item_in_front xs ys k (omega arith)

  -- the next element comes after the others
  pub next_is : (xs : List X) (x : X) (i : ℕ) → i ≡ length xs
      → slice_get (xs ++ x ∷ []) i ≡ Some x
  next_is [] x zero at = refl
  next_is [] x (suc i) at = absurd (omega arith)
  next_is (y ∷ xs) x zero at = absurd (omega arith)
  next_is (y ∷ xs) x (suc i) at = next_is xs x i (omega arith)

-- what an element is made into stays if there are more
pub still_made : {X Y : Type 0} (f : X → Y) (xs ys : List X) (i : ℕ) (y : Y)
    → option_map f (slice_get xs i) ≡ Some y
    → option_map f (slice_get (xs ++ ys) i) ≡ Some y
still_made f xs ys i y h =
    elim (cases_lt i (length xs)) [
      | inl within ↦ ap (option_map f) (item_in_front xs ys i within) ∙ h
      | inr past ↦
          absurd (none-some y (sym (ap (option_map f) (slice_get_past xs i past)) ∙ h))
    ]

-- what is found stays if there are more
pub item_in_front_if : {X : Type 0} (xs ys : List X) (i : ℕ) (x : X) → slice_get xs i ≡ Some x
    → slice_get (xs ++ ys) i ≡ Some x
item_in_front_if xs ys i x h = item_in_front xs ys i (slice_get_within xs i x h) ∙ h

-- ---- two meanings
-- the second tells each that the first tells
abbrev pub TellsAlso : {X Y : Type 0} → (X → Option Y) → (X → Option Y) → Type 0
TellsAlso {X} {Y} f g = (x : X) (y : Y) → f x ≡ Some y → g x ≡ Some y

all_still_told : {X Y : Type 0} (f g : X → Option Y) → TellsAlso f g → (xs : List X) (ys : List Y)
    → map f xs ≡ map Some ys → map g xs ≡ map Some ys
all_still_told f g also [] [] h = refl
all_still_told f g also [] (y ∷ ys) h = cc
all_still_told f g also (x ∷ xs) [] h = cc
all_still_told f g also (x ∷ xs) (y ∷ ys) h =
    let first : f x ≡ Some y = cc in
    let rest : map f xs ≡ map Some ys = cc in
    ap₂ (λ o os. o ∷ os) (also x y first) (all_still_told f g also xs ys rest)

-- one more, by the second
pub one_more : {X Y : Type 0} (f g : X → Option Y) → TellsAlso f g → (xs : List X) (ys : List Y)
    (x : X) (y : Y)
    → map f xs ≡ map Some ys → g x ≡ Some y
    → map g (xs ++ x ∷ []) ≡ map Some (ys ++ y ∷ [])
one_more f g also xs ys x y h is =
    map-append g xs (x ∷ [])
    ∙ ap₂ (λ os o. os ++ o ∷ []) (all_still_told f g also xs ys h) is
    ∙ sym (map-append Some ys (y ∷ []))

-- ---- the elements that are told
pub all_told : {X Y : Type 0} (f : X → Option Y) (xs : List X) (ys : List Y)
    → map f xs ≡ map Some ys → filter_map f xs ≡ ys
all_told f [] [] h = refl
all_told f [] (y ∷ ys) h = cc
all_told f (x ∷ xs) [] h = cc
all_told f (x ∷ xs) (y ∷ ys) h =
    let first : f x ≡ Some y = cc in
    let rest : map f xs ≡ map Some ys = cc in
    ap₂ cons_option first (all_told f xs ys rest)

-- they are as many as tell them
pub as_many : {X Y : Type 0} (f : X → Option Y) (xs : List X) (ys : List Y)
    → map f xs ≡ map Some ys → length xs ≡ length ys
as_many f xs ys h = sym (length-map xs f) ∙ ap length h ∙ length-map ys Some

some_once : {X : Type 0} (o : Option X) (x : Option X) → option_map Some o ≡ Some x → o ≡ x
some_once None x h = absurd (none-some x h)
some_once (Some y) x h = same_Some _ _ h

none_once : {X : Type 0} (o : Option X) → option_map {U = Option X} Some o ≡ None → o ≡ None
none_once None h = refl
none_once (Some y) h = cc

found_as : {X Y : Type 0} (f : X → Option Y) (o : Option X) (y : Option Y)
    → option_map f o ≡ option_map Some y → option_and_then f o ≡ y
found_as f None y h = sym (none_once y (sym h))
found_as f (Some x) y h = sym (some_once y (f x) (sym h))

-- and each is found at its place
pub told_at : {X Y : Type 0} (f : X → Option Y) (xs : List X) (ys : List Y)
    → map f xs ≡ map Some ys → (place : ℕ)
    → option_and_then f (slice_get xs place) ≡ slice_get ys place
told_at f xs ys told place =
    found_as f _ _
    (sym (slice_get-map f xs place)
    ∙ ap (λ os. slice_get os place) told ∙ slice_get-map Some ys place)

-- if each passes a test, it is found through the test too
pub told_if : {X Y : Type 0} (f : X → Option Y) (test : Y → Bool) (xs : List X) (ys : List Y)
    → map f xs ≡ map Some ys → list_all test ys ≡ true → (place : ℕ)
    → option_and_then (λ x. option_and_then (λ y. if test y then Some y else None) (f x))
    (slice_get xs place) ≡ slice_get ys place
told_if f test [] [] h all place = refl
told_if f test [] (y ∷ ys) h all place = let impossible : ⊥ = cc in absurd impossible
told_if f test (x ∷ xs) [] h all place = let impossible : ⊥ = cc in absurd impossible
told_if f test (x ∷ xs) (y ∷ ys) h all zero =
    let first : f x ≡ Some y = cc in
    let passes = and_parts (test y) (list_all test ys) all in
    rw (first, passes.0) refl
told_if f test (x ∷ xs) (y ∷ ys) h all (suc place) =
    let rest : map f xs ≡ map Some ys = cc in
    let passes = and_parts (test y) (list_all test ys) all in
    told_if f test xs ys rest passes.1 place
