-- Lists of which each element is told by a place or a look-up in others.
use Rattle.std.proofs.Common.{◌≡◌, ℕ, ◌-◌, List, [], ◌∷◌, ◌++◌, length, map, slice_get, refl, sym, ap, ap₂, ◌∙◌, inl, inr, arith}
use Rattle.std.specs.Prelude.{Option, Some, None}
use Rattle.std.specs.Option.{option_and_then, option_map}
use Rattle.std.specs.List.{cons_option, filter_map}
use Rattle.std.proofs.lemmas.Bool.{cases_lt}
use Rattle.std.proofs.lemmas.Option.{none-some, same_Some, slice_get-map, slice_get_past}
use Rattle.std.proofs.lemmas.List.{length-map, map-append}
use Rattle.pieces.specs.Pieces.{PiecesParts}
use Rattle.pieces.proofs.Filled.{item_in_front, item_after}

-- ---- places
-- what an element is made into stays if there are more
pub still_made : {X Y : Type 0} (f : X → Y) (xs ys : List X) (i : ℕ) (y : Y)
    → option_map f (slice_get xs i) ≡ Some y
    → option_map f (slice_get (xs ++ ys) i) ≡ Some y
still_made f xs ys i y h =
    elim (cases_lt i (length xs)) [
      | inl within ↦ ap (option_map f) (item_in_front xs ys i within) ∙ h
      | inr past ↦
          absurd (none-some y (sym (ap (option_map f) (slice_get_past xs i past)) ∙ h))
    ]

-- the next element comes after the others
pub next_is : {X : Type 0} (xs : List X) (x : X) (i : ℕ) → i ≡ length xs
    → slice_get (xs ++ x ∷ []) i ≡ Some x
next_is xs x i at = item_after xs (x ∷ []) 0 i (omega arith)

-- ---- two meanings
-- the second tells each that the first tells
abbrev pub TellsAlso : {X Y : Type 0} → (X → Option Y) → (X → Option Y) → Type 0
TellsAlso {X} {Y} f g = (x : X) (y : Y) → f x ≡ Some y → g x ≡ Some y

all_still_told : {X Y : Type 0} (f g : X → Option Y) → TellsAlso f g → (xs : List X) (ys : List Y)
    → map f xs ≡ map Some ys → map g xs ≡ map Some ys
all_still_told f g also [] [] h = refl
all_still_told f g also [] (y ∷ ys) h = cc
all_still_told f g also (x ∷ xs) [] h = cc
all_still_told f g also (x ∷ xs) (y ∷ ys) h =
    let first : f x ≡ Some y = cc in
    let rest : map f xs ≡ map Some ys = cc in
    ap₂ (λ o os. o ∷ os) (also x y first) (all_still_told f g also xs ys rest)

-- one more, by the second
pub one_more : {X Y : Type 0} (f g : X → Option Y) → TellsAlso f g → (xs : List X) (ys : List Y)
    (x : X) (y : Y)
    → map f xs ≡ map Some ys → g x ≡ Some y
    → map g (xs ++ x ∷ []) ≡ map Some (ys ++ y ∷ [])
one_more f g also xs ys x y h is =
    map-append g xs (x ∷ [])
    ∙ ap₂ (λ os o. os ++ o ∷ []) (all_still_told f g also xs ys h) is
    ∙ sym (map-append Some ys (y ∷ []))

-- ---- the elements that are told
pub all_told : {X Y : Type 0} (f : X → Option Y) (xs : List X) (ys : List Y)
    → map f xs ≡ map Some ys → filter_map f xs ≡ ys
all_told f [] [] h = refl
all_told f [] (y ∷ ys) h = cc
all_told f (x ∷ xs) [] h = cc
all_told f (x ∷ xs) (y ∷ ys) h =
    let first : f x ≡ Some y = cc in
    let rest : map f xs ≡ map Some ys = cc in
    ap₂ cons_option first (all_told f xs ys rest)

-- they are as many as tell them
pub as_many : {X Y : Type 0} (f : X → Option Y) (xs : List X) (ys : List Y)
    → map f xs ≡ map Some ys → length xs ≡ length ys
as_many f xs ys h = sym (length-map xs f) ∙ ap length h ∙ length-map ys Some

some_once : {X : Type 0} (o : Option X) (x : Option X) → option_map Some o ≡ Some x → o ≡ x
some_once None x h = absurd (none-some x h)
some_once (Some y) x h = same_Some _ _ h

none_once : {X : Type 0} (o : Option X) → option_map {U = Option X} Some o ≡ None → o ≡ None
none_once None h = refl
none_once (Some y) h = cc

found_as : {X Y : Type 0} (f : X → Option Y) (o : Option X) (y : Option Y)
    → option_map f o ≡ option_map Some y → option_and_then f o ≡ y
found_as f None y h = sym (none_once y (sym h))
found_as f (Some x) y h = sym (some_once y (f x) (sym h))

-- and each is found at its place
pub told_at : {X Y : Type 0} (f : X → Option Y) (xs : List X) (ys : List Y)
    → map f xs ≡ map Some ys → (place : ℕ)
    → option_and_then f (slice_get xs place) ≡ slice_get ys place
told_at f xs ys told place =
    found_as f _ _
    (sym (slice_get-map f xs place)
    ∙ ap (λ os. slice_get os place) told ∙ slice_get-map Some ys place)

-- ---- a list with one more element, in room that it had
abbrev pub with_item : {X : Type 0} → PiecesParts X → X → PiecesParts X
with_item xs x = record { items = xs.items ++ x ∷ []; room = xs.room - 1 }
