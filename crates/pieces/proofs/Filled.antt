-- What the pieces of a list hold, where an item lies in them, and what further items change, and one
-- in the place of another.
use Rattle.std.proofs.Common.{◌≡◌, ℕ, zero, suc, ◌+◌, ◌-◌, ◌*◌, ◌/◌, ◌%◌, ◌<◌, ◌≤◌, List, [], ◌∷◌, ◌++◌, length, Option, None, Some, Bor, refl, sym, ap, subst, ◌∙◌, inl, inr, append_assoc, length-append, arith}
use Rattle.std.specs.Prelude.{Vec, vec_items, vec_len, vec_capacity, slice_get, slice_index_or, slice_set}
use Rattle.std.specs.List.{flat_map}
use Rattle.std.specs.Slice.{IsItemAt}
use Rattle.std.specs.Option.{option_and_then, option_copied}
use Rattle.std.proofs.lemmas.Bool.{cases_lt}
use Rattle.std.proofs.lemmas.List.{append-nil, nil_from_length, length-set, set-append_left, set-append_right}
use Rattle.std.proofs.lemmas.Option.{slice_get_past, slice_get_read}
use Rattle.pieces.specs.Filled.{HasFirst, AreFilled}

-- an item of the first of two lists, and one of the second
module _ {X : Type 0} where
  pub item_in_front : (xs ys : List X) (k : ℕ) → k < length xs
      → slice_get (xs ++ ys) k ≡ slice_get xs k
  item_in_front [] ys k within = absurd (omega arith)
  item_in_front (x ∷ xs) ys zero within = refl
  item_in_front (x ∷ xs) ys (suc k) within = item_in_front xs ys k (omega arith)

  pub item_after : (xs ys : List X) (k place : ℕ) → place ≡ length xs + k
      → slice_get (xs ++ ys) place ≡ slice_get ys k
  item_after [] ys k place at = ap (slice_get ys) (omega arith)
  item_after (x ∷ xs) ys k zero at = absurd (omega arith)
  item_after (x ∷ xs) ys k (suc place) at = item_after xs ys k place (omega arith)

  -- what a look-up finds
  pub item_looked_up : (xs : List X) (k : ℕ) (item : Option (Bor X)) → IsItemAt xs k item
      → option_copied item ≡ slice_get xs k
  item_looked_up xs k None found = sym (slice_get_past xs k found.3)
  item_looked_up xs k (Some x) found =
      sym (slice_get_read xs (length xs) k x.now refl found.3.0 found.1)

module _ {T A : Type 0} where
  -- the pieces hold as many items as are counted
  pub items_counted : (ps : List (Vec T A)) (count : ℕ) → AreFilled ps count
      → length (flat_map vec_items ps) ≡ count
  items_counted [] count filled = sym filled
  items_counted (p ∷ ps) count filled =
      let rest = items_counted ps (count - 1024) filled.1 in
      let first = filled.0.items in
      omega (arith, length-append (vec_items p) (flat_map vec_items ps))

  -- and no more than they have room for
  pub count_fits : (ps : List (Vec T A)) (count : ℕ) → AreFilled ps count
      → count ≤ 1024 * length ps
  count_fits [] count filled = omega arith
  count_fits (p ∷ ps) count filled =
      let rest = count_fits ps (count - 1024) filled.1 in omega arith

  -- after a piece that is not full there are no items
  none_after : (ps : List (Vec T A)) (count : ℕ) → AreFilled ps (count - 1024) → count ≤ 1024
      → flat_map vec_items ps ≡ []
  none_after ps count filled short =
      let none = items_counted ps (count - 1024) filled in
      nil_from_length (flat_map vec_items ps) (omega arith)

  -- one more empty piece
  module _ (new : Vec T A) (items : vec_items new ≡ []) (room : 1024 ≤ vec_capacity new) where
    pub filled_with_room : (ps : List (Vec T A)) (count : ℕ) → AreFilled ps count
        → AreFilled (ps ++ new ∷ []) count
    filled_with_room [] count none =
        (record { items = rw items (omega arith); room = room }, omega arith)
    filled_with_room (p ∷ ps) count filled =
        (filled.0, filled_with_room ps (count - 1024) filled.1)

    pub same_items : (ps : List (Vec T A))
        → flat_map vec_items (ps ++ new ∷ []) ≡ flat_map vec_items ps
    same_items [] = append-nil (vec_items new) ∙ items
    same_items (p ∷ ps) = ap (λ rest. vec_items p ++ rest) (same_items ps)

  -- the item at a place lies in the piece of its quotient, at its remainder
  item_in_piece : (ps : List (Vec T A)) (count piece at place : ℕ) → AreFilled ps count
      → at < 1024 → place ≡ 1024 * piece + at
      → slice_get (flat_map vec_items ps) place
      ≡ option_and_then (λ p. slice_get (vec_items p) at) (slice_get ps piece)
  item_in_piece [] count piece at place filled small is = refl
  item_in_piece (p ∷ ps) count zero at place filled small is =
      let same : place ≡ at = omega arith in
      let first = filled.0.items in
      let all = items_counted (p ∷ ps) count filled in
      rw same
      (elim (cases_lt at (length (vec_items p))) [
        | inl within ↦ item_in_front (vec_items p) (flat_map vec_items ps) at within
        | inr past ↦
            slice_get_past (flat_map vec_items (p ∷ ps)) at (omega arith)
            ∙ sym (slice_get_past (vec_items p) at past)
      ])
  item_in_piece (p ∷ ps) count (suc piece) at place filled small is =
      let first = filled.0.items in
      let all = items_counted (p ∷ ps) count filled in
      let none = items_counted ps (count - 1024) filled.1 in
      let rest = item_in_piece ps (count - 1024) piece at (1024 * piece + at) filled.1 small refl in
      elim (cases_lt count 1024) [
        | inl short ↦
            slice_get_past (flat_map vec_items (p ∷ ps)) place (omega arith)
            ∙ sym (slice_get_past (flat_map vec_items ps) (1024 * piece + at) (omega arith))
            ∙ rest
        | inr full ↦
            item_after (vec_items p) (flat_map vec_items ps) (1024 * piece + at) place (omega arith)
            ∙ rest
      ]

  -- so it is found by a look-up of the piece, and one in the piece
  pub item_found : (ps : List (Vec T A)) (count place : ℕ) (piece : Option (Bor (Vec T A)))
      → AreFilled ps count → IsItemAt ps (place / 1024) piece
      → slice_get (flat_map vec_items ps) place
      ≡ option_and_then (λ p. slice_get (vec_items p) (place % 1024)) (option_copied piece)
  item_found ps count place piece filled found =
      item_in_piece ps count (place / 1024) (place % 1024) place filled (omega arith) (omega arith)
      ∙ ap (option_and_then (λ p. slice_get (vec_items p) (place % 1024)))
      (sym (item_looked_up ps (place / 1024) piece found))

  -- the next item goes in the piece at this place
  pub record IsNext (ps : List (Vec T A)) (count place : ℕ) (piece : Vec T A) : Type 0 where
    pub within : place < length ps
    pub low : 1024 * place ≤ count
    pub high : count < 1024 * place + 1024
    pub is : piece ≡ slice_index_or ps place piece

  pub is_next : (ps : List (Vec T A)) (count : ℕ) (piece : Vec T A) → count < 1024 * length ps
      → piece ≡ slice_index_or ps (count / 1024) piece → IsNext ps count (count / 1024) piece
  is_next ps count piece room is =
      record { within = omega arith; low = omega arith; high = omega arith; is = is }

  next_in_rest : (p : Vec T A) (ps : List (Vec T A)) (count place : ℕ) (piece : Vec T A)
      → IsNext (p ∷ ps) count (suc place) piece → IsNext ps (count - 1024) place piece
  next_in_rest p ps count place piece next =
      let within = next.within in
      let low = next.low in
      let high = next.high in
      record { within = omega arith; low = omega arith; high = omega arith; is = next.is }

  -- that piece has room for as many more as it lacks
  pub next_has_room : (ps : List (Vec T A)) (count place more : ℕ) (piece : Vec T A)
      → AreFilled ps count → IsNext ps count place piece → count + more ≤ 1024 * place + 1024
      → vec_len piece + more ≤ vec_capacity piece
  next_has_room [] count place more piece filled next fits = absurd (omega (arith, next.within))
  next_has_room (p ∷ ps) count zero more piece filled next fits =
      let items = ap (λ v. length (vec_items v)) next.is in
      let room = ap vec_capacity next.is in
      omega (arith, filled.0.items, filled.0.room, next.high, piece.ok.0)
  next_has_room (p ∷ ps) count (suc place) more piece filled next fits =
      let rest = next_in_rest p ps count place piece next in
      let less = next.low in
      next_has_room ps (count - 1024) place more piece filled.1 rest (omega arith)

  -- a full piece stays one as items are added after it
  still_first : (p : Vec T A) (count more : ℕ) → HasFirst p count → 1024 ≤ count
      → HasFirst p (count + more)
  still_first p count more first full =
      let items = first.items in record { items = omega arith; room = first.room }

  -- the new piece is the old one with items at its end, and has room for as many
  pub record IsPushed (old new : Vec T A) (more : List T) : Type 0 where
    pub items : vec_items new ≡ vec_items old ++ more
    pub room : vec_capacity new ≡ vec_capacity old

  -- what it changes of the whole
  module _ {old new : Vec T A} {more : List T} (pushed : IsPushed old new more) where
    pub filled_with_items : (ps : List (Vec T A)) (count place : ℕ) → AreFilled ps count
        → IsNext ps count place old → count + length more ≤ 1024 * place + 1024
        → AreFilled (slice_set ps place new) (count + length more)
    filled_with_items [] count place filled next fits = absurd (omega (arith, next.within))
    filled_with_items (p ∷ ps) count zero filled next fits =
        let high = next.high in
        let first = filled.0 in
        let same = ap (λ v. length (vec_items v)) next.is in
        let longer = ap length pushed.items ∙ length-append (vec_items old) more in
        let none : count - 1024 ≡ count + length more - 1024 = omega arith in (
          record {
            items = omega (arith, first.items);
            room = omega (arith, first.room, pushed.room, ap vec_capacity next.is);
          },
          subst (AreFilled ps) none filled.1,
        )
    filled_with_items (p ∷ ps) count (suc place) filled next fits =
        let full : 1024 ≤ count = omega (arith, next.low) in
        let less : count - 1024 + length more ≡ count + length more - 1024 = omega arith in
        let rest = next_in_rest p ps count place old next in (
          still_first p count (length more) filled.0 full,
          subst (AreFilled (slice_set ps place new)) less
              (filled_with_items ps (count - 1024) place filled.1 rest (omega arith)),
        )

    pub items_with_items : (ps : List (Vec T A)) (count place : ℕ) → AreFilled ps count
        → IsNext ps count place old
        → flat_map vec_items (slice_set ps place new) ≡ flat_map vec_items ps ++ more
    items_with_items [] count place filled next = absurd (omega (arith, next.within))
    items_with_items (p ∷ ps) count zero filled next =
        rw (none_after ps count filled.1 (omega (arith, next.high)))
        (append-nil (vec_items new)
        ∙ pushed.items
        ∙ ap (λ xs. xs ++ more) (ap vec_items next.is ∙ sym (append-nil (vec_items p))))
    items_with_items (p ∷ ps) count (suc place) filled next =
        let rest = next_in_rest p ps count place old next in
        ap (λ xs. vec_items p ++ xs) (items_with_items ps (count - 1024) place filled.1 rest)
        ∙ sym (append_assoc (vec_items p) (flat_map vec_items ps) more)

  -- an item lies in the piece at this place, and at this one in it
  pub record IsHeld (ps : List (Vec T A)) (count place inner : ℕ) (piece : Vec T A) : Type 0 where
    pub there : 1024 * place + inner < count
    pub small : inner < 1024
    pub is : piece ≡ slice_index_or ps place piece

  pub is_held : (ps : List (Vec T A)) (count at : ℕ) (piece : Vec T A) → at < count
      → piece ≡ slice_index_or ps (at / 1024) piece
      → IsHeld ps count (at / 1024) (at % 1024) piece
  is_held ps count at piece there is =
      record { there = omega arith; small = omega arith; is = is }

  held_in_rest : (p : Vec T A) (ps : List (Vec T A)) (count place inner : ℕ) (piece : Vec T A)
      → IsHeld (p ∷ ps) count (suc place) inner piece
      → IsHeld ps (count - 1024) place inner piece
  held_in_rest p ps count place inner piece held =
      let there = held.there in
      record { there = omega arith; small = held.small; is = held.is }

  -- that piece is long enough
  pub held_within : (ps : List (Vec T A)) (count place inner : ℕ) (piece : Vec T A)
      → AreFilled ps count → IsHeld ps count place inner piece → inner < vec_len piece
  held_within [] count place inner piece filled held = absurd (omega (arith, held.there, filled))
  held_within (p ∷ ps) count zero inner piece filled held =
      let items = ap (λ v. length (vec_items v)) held.is in
      omega (arith, filled.0.items, held.there, held.small, piece.ok.0)
  held_within (p ∷ ps) count (suc place) inner piece filled held =
      let rest = held_in_rest p ps count place inner piece held in
      held_within ps (count - 1024) place inner piece filled.1 rest

  -- the new piece is the old one with an item in the place of another
  pub record IsPut (old new : Vec T A) (inner : ℕ) (item : T) : Type 0 where
    pub items : vec_items new ≡ slice_set (vec_items old) inner item
    pub room : vec_capacity new ≡ vec_capacity old

  -- what it changes of the whole
  module _ {old new : Vec T A} {inner : ℕ} {item : T} (put : IsPut old new inner item) where
    pub filled_with_put : (ps : List (Vec T A)) (count place : ℕ) → AreFilled ps count
        → IsHeld ps count place inner old → AreFilled (slice_set ps place new) count
    filled_with_put [] count place filled held = filled
    filled_with_put (p ∷ ps) count zero filled held =
        let first = filled.0 in
        let same = ap (λ v. length (vec_items v)) held.is in
        let kept = ap length put.items ∙ length-set (vec_items old) inner item in (
          record {
            items = omega (arith, first.items);
            room = omega (arith, first.room, put.room, ap vec_capacity held.is);
          },
          filled.1,
        )
    filled_with_put (p ∷ ps) count (suc place) filled held =
        let rest = held_in_rest p ps count place inner old held in
        (filled.0, filled_with_put ps (count - 1024) place filled.1 rest)

    pub items_with_put : (ps : List (Vec T A)) (count place at : ℕ) → AreFilled ps count
        → IsHeld ps count place inner old → at ≡ 1024 * place + inner
        → flat_map vec_items (slice_set ps place new)
        ≡ slice_set (flat_map vec_items ps) at item
    items_with_put [] count place at filled held is = refl
    items_with_put (p ∷ ps) count zero at filled held is =
        let same : vec_items old ≡ vec_items p = ap vec_items held.is in
        let within : at < length (vec_items p) =
        omega (arith, filled.0.items, held.there, held.small) in
        let here : inner ≡ at = omega arith in
        ap (λ xs. xs ++ flat_map vec_items ps)
        (put.items
        ∙ ap (λ k. slice_set (vec_items old) k item) here
        ∙ ap (λ xs. slice_set xs at item) same)
        ∙ sym (set-append_left (vec_items p) (flat_map vec_items ps) at item within)
    items_with_put (p ∷ ps) count (suc place) at filled held is =
        let rest = held_in_rest p ps count place inner old held in
        let full : length (vec_items p) ≡ 1024 =
        omega (arith, filled.0.items, held.there) in
        ap (λ xs. vec_items p ++ xs)
        (items_with_put ps (count - 1024) place (at - 1024) filled.1 rest (omega arith))
        ∙ sym (set-append_right (vec_items p) (flat_map vec_items ps) 1024 at item full
        (omega arith))
