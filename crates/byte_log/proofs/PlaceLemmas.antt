-- How places lie in their pieces, all but the last of which are full.
use Rattle.std.proofs.Common.{◌≡◌, ℕ, zero, suc, ◌+◌, ◌-◌, ◌*◌, ◌/◌, ◌%◌, ◌<◌, ◌≤◌, max, List, [], ◌∷◌, ◌++◌, length, refl, sym, ap, subst, ◌∙◌, inl, inr, append_assoc, append-nil, length-append, Bor, arith}
use Rattle.std.specs.Option.{option_and_then, option_copied}
use Rattle.std.specs.Prelude.{slice_get, slice_index_or, Option, Some, None}
use Rattle.std.specs.Slice.{IsItemAt}
use Rattle.std.proofs.lemmas.Bool.{cases_lt}
use Rattle.std.proofs.lemmas.List.{length_push}
use Rattle.std.proofs.lemmas.Option.{slice_get-get_or, slice_get_past, slice_get_read}
use Rattle.byte_log.specs.Filled.{AreFull, IsPlaceList, items_in, places_room}
use Rattle.byte_log.specs.Parts.{ListParts}
use Rattle.byte_log.specs.Pieces.{left_of, IsBegun, IsPut}
use Rattle.byte_log.specs.declared.places.Place.{Place}
use Rattle.byte_log.proofs.PieceLemmas.{left_some, some_left, split}
use Rattle.byte_log.proofs.RoomLemmas.{left_begun, left_put}

module _ {T : Type 0} where
  -- an item of the first of two lists, and one of the second
  item_in_front : (xs ys : List T) (k : ℕ) → k < length xs
      → slice_get (xs ++ ys) k ≡ slice_get xs k
  item_in_front [] ys k within = absurd (omega arith)
  item_in_front (x ∷ xs) ys zero within = refl
  item_in_front (x ∷ xs) ys (suc k) within = item_in_front xs ys k (omega arith)

  item_after : (xs ys : List T) (k place : ℕ) → place ≡ length xs + k
      → slice_get (xs ++ ys) place ≡ slice_get ys k
  item_after [] ys k place at = ap (slice_get ys) (omega arith)
  item_after (x ∷ xs) ys k zero at = absurd (omega arith)
  item_after (x ∷ xs) ys k (suc place) at = item_after xs ys k place (omega arith)

  -- what a look-up finds
  pub place_read : (xs : List T) (k : ℕ) (x : Option (Bor T)) → IsItemAt xs k x
      → option_copied x ≡ slice_get xs k
  place_read xs k None found = sym (slice_get_past xs k found.3)
  place_read xs k (Some x) found =
      sym (slice_get_read xs (length xs) k x.now refl found.3.0 found.1)

  items_pushed : (ps : List (List T)) (more : List T)
      → items_in (ps ++ more ∷ []) ≡ items_in ps ++ more
  items_pushed [] more = append-nil more
  items_pushed (p ∷ ps) more =
      ap (λ rest. p ++ rest) (items_pushed ps more) ∙ sym (append_assoc p (items_in ps) more)

  -- another piece in the place of the last
  full_set : (front : List (List T)) (old new : List T) → AreFull (front ++ old ∷ [])
      → length new ≤ 16384 → AreFull (front ++ new ∷ [])
  full_set [] old new full small = small
  full_set (p ∷ []) old new full small = (full.0, small)
  full_set (p ∷ q ∷ rest) old new full small = (full.0, full_set (q ∷ rest) old new full.1 small)

  -- one more piece after a full one
  full_pushed : (ps : List (List T)) (new : List T) → AreFull ps → length new ≤ 16384
      → ((k : ℕ) → k + 1 ≡ length ps → length (slice_index_or ps k []) ≡ 16384)
      → AreFull (ps ++ new ∷ [])
  full_pushed [] new full small last = small
  full_pushed (p ∷ []) new full small last = (last 0 refl, small)
  full_pushed (p ∷ q ∷ rest) new full small last =
      (full.0, full_pushed (q ∷ rest) new full.1 small (λ k at. last (suc k) (omega arith)))

  -- the last has no more than it has room for
  full_last : (ps : List (List T)) (k : ℕ) → AreFull ps → k + 1 ≡ length ps
      → length (slice_index_or ps k []) ≤ 16384
  full_last [] k full at = absurd (omega arith)
  full_last (p ∷ []) zero full at = full
  full_last (p ∷ []) (suc k) full at = absurd (omega arith)
  full_last (p ∷ q ∷ rest) zero full at = absurd (omega arith)
  full_last (p ∷ q ∷ rest) (suc k) full at = full_last (q ∷ rest) k full.1 (omega arith)

  -- how many there are
  counted : (ps : List (List T)) (k : ℕ) → AreFull ps → k + 1 ≡ length ps
      → length (items_in ps) ≡ 16384 * k + length (slice_index_or ps k [])
  counted [] k full at = absurd (omega arith)
  counted (p ∷ []) zero full at = omega (arith, length-append p [])
  counted (p ∷ []) (suc k) full at = absurd (omega arith)
  counted (p ∷ q ∷ rest) zero full at = absurd (omega arith)
  counted (p ∷ q ∷ rest) (suc k) full at =
      let more = counted (q ∷ rest) k full.1 (omega arith) in
      let long = length-append p (items_in (q ∷ rest)) in
      omega (arith, full.0)

  counted_left : (size : ℕ) (ps : List (List T)) → size ≡ 16384 → AreFull ps
      → length (items_in ps) + left_of size ps ≡ 16384 * length ps
  counted_left size [] is full = omega arith
  counted_left size (p ∷ ps) is full =
      let k = length (p ∷ ps) - 1 in
      let at : k + 1 ≡ length (p ∷ ps) = omega arith in
      omega (arith, counted (p ∷ ps) k full at, full_last (p ∷ ps) k full at)

  pub places_counted : (l : ListParts T) → IsPlaceList l
      → length (items_in l.pieces) + left_of l.size l.pieces ≡ 16384 * length l.pieces
  places_counted l is = counted_left l.size l.pieces is.size is.full

  -- the item at a place lies in the piece of its quotient, at its remainder
  item_at : (ps : List (List T)) (k at place : ℕ) → AreFull ps → at < 16384
      → place ≡ 16384 * k + at
      → slice_get (items_in ps) place
      ≡ option_and_then (λ p. slice_get p at) (slice_get ps k)
  item_at [] k at place full small is = refl
  item_at (p ∷ []) zero at place full small is =
      let same : place ≡ at = omega arith in
      ap (λ xs. slice_get xs place) (append-nil p) ∙ ap (slice_get p) same
  item_at (p ∷ []) (suc k) at place full small is =
      slice_get_past (p ++ []) place (omega (arith, length-append p []))
  item_at (p ∷ q ∷ rest) zero at place full small is =
      let same : place ≡ at = omega arith in
      rw same (item_in_front p (items_in (q ∷ rest)) at (omega (arith, full.0)))
  item_at (p ∷ q ∷ rest) (suc k) at place full small is =
      item_after p (items_in (q ∷ rest)) (16384 * k + at) place (omega (arith, full.0))
      ∙ item_at (q ∷ rest) k at (16384 * k + at) full.1 small refl

  pub place_there : (ps : List (List T)) (place : ℕ) → AreFull ps → place / 16384 < length ps
      → slice_get (items_in ps) place
      ≡ slice_get (slice_index_or ps (place / 16384) []) (place % 16384)
  place_there ps place full within =
      item_at ps (place / 16384) (place % 16384) place full (omega arith) (omega arith)
      ∙ ap (option_and_then (λ p. slice_get p (place % 16384)))
      (slice_get-get_or ps (place / 16384) [] within)

  pub place_absent : (l : ListParts T) (place : ℕ) → IsPlaceList l
      → length l.pieces ≤ place / 16384 → slice_get (items_in l.pieces) place ≡ None
  place_absent l place is past =
      slice_get_past (items_in l.pieces) place (omega (arith, places_counted l is))

  -- one more
  pub record IsPlaced (old new : ListParts T) (item : T) : Type 0 where
    pub list : IsPlaceList new
    pub items : items_in new.pieces ≡ items_in old.pieces ++ item ∷ []
    pub room : places_room new ≡ places_room old - 1

  put_last : (old new : ListParts T) (item : T) (place : Place) → IsPlaceList old
      → 1 ≤ left_of old.size old.pieces → IsPut old new (item ∷ []) place
      → IsPlaced old new item
  put_last old new item place is fits put =
      let some = some_left old.size old.pieces fits in
      let k = length old.pieces - 1 in
      let parts = split old.pieces (item ∷ []) k (omega arith) in
      let full = subst AreFull parts.is is.full in
      let left = left_some old.size old.pieces some in
      let size = is.size in
      let long = length_push parts.last item in
      let small : length (parts.last ++ item ∷ []) ≤ 16384 = omega (arith, parts.start) in
      let after = left_put old.size old.pieces (item ∷ []) some in
      subst (λ l. IsPlaced old l item) (sym put.is) (record {
        list = record {
          full = subst AreFull (sym parts.new)
              (full_set parts.front parts.last (parts.last ++ item ∷ []) full small);
          size = size;
        };
        items =
            ap items_in parts.new
            ∙ items_pushed parts.front (parts.last ++ item ∷ [])
            ∙ sym (append_assoc (items_in parts.front) parts.last (item ∷ []))
            ∙ ap (λ xs. xs ++ item ∷ [])
            (sym (items_pushed parts.front parts.last) ∙ ap items_in (sym parts.is));
        room = omega (arith, after);
      })

  put_new : (old new : ListParts T) (item : T) (place : Place) → IsPlaceList old
      → left_of old.size old.pieces < 1 → IsBegun old new (item ∷ []) place
      → IsPlaced old new item
  put_new old new item place is none begun =
      let size : new.size ≡ 16384 = begun.size ∙ is.size in
      let left = left_begun new.size old.pieces (item ∷ []) in
      let now = ap (left_of new.size) begun.pieces ∙ left in
      let last : (k : ℕ) → k + 1 ≡ length old.pieces
      → length (slice_index_or old.pieces k []) ≡ 16384 = λ k at.
      (let there = counted old.pieces k is.full at in
      let small = full_last old.pieces k is.full at in
      omega (arith, places_counted old is)) in
      record {
        list = record {
          full = subst AreFull (sym begun.pieces)
              (full_pushed old.pieces (item ∷ []) is.full (omega arith) last);
          size = size;
        };
        items = ap items_in begun.pieces ∙ items_pushed old.pieces (item ∷ []);
        room = omega (arith, now, begun.spare);
      }

  pub placed : (old new : ListParts T) (item : T) (place : Place) → IsPlaceList old
      → (max 1 1 ≤ left_of old.size old.pieces → IsPut old new (item ∷ []) place)
      → (left_of old.size old.pieces < max 1 1 → IsBegun old new (item ∷ []) place)
      → IsPlaced old new item
  placed old new item place is put begun =
      elim (cases_lt (left_of old.size old.pieces) 1) [
        | inl none ↦ put_new old new item place is none (begun none)
        | inr fits ↦ put_last old new item place is fits (put fits)
      ]
