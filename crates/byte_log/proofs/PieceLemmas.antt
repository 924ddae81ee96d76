-- What a list of pieces has, and what further items change.
use Rattle.std.proofs.Common.{◌≡◌, ℕ, suc, Bool, true, false, ◌+◌, ◌-◌, ◌<◌, ◌≤◌, List, [], ◌∷◌, ◌++◌, length, IfSome, refl, sym, ap, subst, ◌∙◌, get_or-set_same, get_or-set_other, length-set, take, take_all, length-take-le, get_or-take, arith}
use Rattle.std.specs.Prelude.{slice_get, slice_index_or, slice_set, Some}
use Rattle.std.proofs.lemmas.List.{get_or-map, map_push, map-set, length_push, get_or_push, set-get_or, set_split, take_more, drop_all}
use Rattle.std.proofs.lemmas.Option.{slice_get-get_or, slice_get_past, slice_get_read}
use Rattle.byte_log.specs.Parts.{PieceParts, piece_of}
use Rattle.byte_log.specs.Pieces.{pieces_in, last_length, left_of, append_last, room_in, last_room, LastHasRoom, AreSpare}

module _ {T : Type 0} where
  -- a piece that has room is not closed
  pub record IsWritten (is_closed : Bool) (written closed : List T) (now : PieceParts T)
      (left : ℕ) : Type 0 where
    pub items : now.items ≡ written
    pub room : now.room ≡ left
    pub more : (items : List T) (room : ℕ)
        → piece_of is_closed items room closed ≡ record { items = items; room = room }

  pub is_written : (is_closed : Bool) (written closed : List T) (room : ℕ) (now : PieceParts T)
      → piece_of is_closed written room closed ≡ now → 0 < now.room
      → IsWritten is_closed written closed now room
  is_written true written closed room now is some =
      absurd (omega (arith, ap (λ p. p.room) is))
  is_written false written closed room now is some =
      record {
        items = ap (λ p. p.items) (sym is);
        room = ap (λ p. p.room) (sym is);
        more = λ items room. refl;
      }

  pub pieces_counted : (ps : List (PieceParts T)) → length (pieces_in ps) ≡ length ps
  pieces_counted [] = refl
  pieces_counted (p ∷ ps) = ap suc (pieces_counted ps)

  -- the piece at a place
  pub piece_read : (ps : List (PieceParts T)) (k : ℕ) (p : PieceParts T) → k < length ps
      → p ≡ slice_index_or ps k p → slice_index_or (pieces_in ps) k [] ≡ p.items
  piece_read ps k p within is =
      get_or-map (λ q. q.items) ps k p [] within ∙ ap (λ q. q.items) (sym is)

  -- how many items the last piece has
  pub last_read : (ps : List (PieceParts T)) (k : ℕ) (p : PieceParts T) → k + 1 ≡ length ps
      → p ≡ slice_index_or ps k p → last_length (pieces_in ps) ≡ length p.items
  last_read ps k p last is =
      let at : length (pieces_in ps) - 1 ≡ k = omega (arith, pieces_counted ps) in
      ap (λ n. length (slice_index_or (pieces_in ps) n [])) at
      ∙ ap length (piece_read ps k p (omega arith) is)

  pub left_none : (size : ℕ) (ps : List (List T)) → length ps ≡ 0 → left_of size ps ≡ 0
  left_none size [] none = refl
  left_none size (p ∷ ps) none = absurd (omega arith)

  pub left_some : (size : ℕ) (ps : List (List T)) → 0 < length ps
      → left_of size ps ≡ size - last_length ps
  left_some size [] some = absurd (omega arith)
  left_some size (p ∷ ps) some = refl

  pub some_left : (size : ℕ) (ps : List (List T)) → 0 < left_of size ps → 0 < length ps
  some_left size [] some = absurd (omega arith)
  some_left size (p ∷ ps) some = omega arith

  pub left_zero : (size : ℕ) (ps : List (PieceParts T)) → length ps ≡ 0
      → left_of size (pieces_in ps) ≡ 0
  left_zero size ps none = left_none size (pieces_in ps) (pieces_counted ps ∙ none)

  pub left_read : (size : ℕ) (ps : List (PieceParts T)) (k : ℕ) (p : PieceParts T)
      → k + 1 ≡ length ps → p ≡ slice_index_or ps k p
      → left_of size (pieces_in ps) ≡ size - length p.items
  left_read size ps k p last is =
      left_some size (pieces_in ps) (omega (arith, pieces_counted ps))
      ∙ ap (λ n. size - n) (last_read ps k p last is)

  -- that piece as one of a list
  pub last_is : (ps : List (PieceParts T)) (k : ℕ) (p : PieceParts T) → k + 1 ≡ length ps
      → p ≡ slice_index_or ps k p → slice_get ps (length ps - 1) ≡ Some p
  last_is ps k p last is =
      let at : length ps - 1 ≡ k = omega arith in
      ap (slice_get ps) at ∙ slice_get_read ps (length ps) k p refl (omega arith) is

  pub last_has_room : (size : ℕ) (ps : List (PieceParts T)) (k : ℕ) (p : PieceParts T)
      → k + 1 ≡ length ps → p ≡ slice_index_or ps k p → LastHasRoom size ps
      → size ≤ length p.items + p.room
  last_has_room size ps k p last is has =
      subst (λ o. IfSome o (λ q. size ≤ length q.items + q.room)) (last_is ps k p last is) has

  pub room_none : (ps : List (PieceParts T)) → length ps ≡ 0 → last_room ps ≡ 0
  room_none ps none = ap room_in (slice_get_past ps (length ps - 1) (omega arith))

  pub room_last : (ps : List (PieceParts T)) (k : ℕ) (p : PieceParts T) → k + 1 ≡ length ps
      → p ≡ slice_index_or ps k p → last_room ps ≡ p.room
  room_last ps k p last is = ap room_in (last_is ps k p last is)

  -- another one in the place of the last
  pub last_set : (size : ℕ) (ps : List (PieceParts T)) (k : ℕ) (p : PieceParts T)
      → k + 1 ≡ length ps → size ≤ length p.items + p.room → LastHasRoom size (slice_set ps k p)
  last_set size ps k p last has =
      let long = length-set ps k p in
      subst (λ o. IfSome o (λ q. size ≤ length q.items + q.room))
      (sym (last_is (slice_set ps k p) k p (omega arith)
      (sym (get_or-set_same ps k p p (omega arith)))))
      has

  -- one in the place of an earlier one
  pub last_kept : (size : ℕ) (ps : List (PieceParts T)) (k : ℕ) (p : PieceParts T)
      → k + 1 < length ps → LastHasRoom size ps → LastHasRoom size (slice_set ps k p)
  last_kept size ps k p early has =
      let long = length-set ps k p in
      let end = length ps - 1 in
      let at : length (slice_set ps k p) - 1 ≡ end = omega arith in
      let same : slice_get (slice_set ps k p) (length (slice_set ps k p) - 1)
      ≡ slice_get ps (length ps - 1) =
      ap (slice_get (slice_set ps k p)) at
      ∙ slice_get-get_or (slice_set ps k p) end p (omega arith)
      ∙ ap Some (get_or-set_other ps k end p p (omega arith))
      ∙ sym (slice_get-get_or ps end p (omega arith)) in
      subst (λ o. IfSome o (λ q. size ≤ length q.items + q.room)) (sym same) has

  -- one more at the end
  pub last_pushed : (size : ℕ) (ps : List (PieceParts T)) (p : PieceParts T)
      → size ≤ length p.items + p.room → LastHasRoom size (ps ++ p ∷ [])
  last_pushed size ps p has =
      let long = length_push ps p in
      subst (λ o. IfSome o (λ q. size ≤ length q.items + q.room))
      (sym (last_is (ps ++ p ∷ []) (length ps) p (omega arith)
      (sym (get_or_push ps p p (length ps) refl))))
      has

  pub pieces_pushed : (ps : List (PieceParts T)) (p : PieceParts T)
      → pieces_in (ps ++ p ∷ []) ≡ pieces_in ps ++ p.items ∷ []
  pieces_pushed ps p = map_push (λ q. q.items) ps p

  -- items at the end of the last
  pub pieces_put : (ps : List (PieceParts T)) (k : ℕ) (old new : PieceParts T) (items : List T)
      → k + 1 ≡ length ps → old ≡ slice_index_or ps k old → new.items ≡ old.items ++ items
      → pieces_in (slice_set ps k new) ≡ append_last (pieces_in ps) items
  pieces_put ps k old new items last is put =
      let at : length (pieces_in ps) - 1 ≡ k = omega (arith, pieces_counted ps) in
      map-set (λ q. q.items) ps k new
      ∙ ap (slice_set (pieces_in ps) k)
      (put ∙ ap (λ xs. xs ++ items) (sym (piece_read ps k old (omega arith) is)))
      ∙ ap
      (λ n. slice_set (pieces_in ps) n (slice_index_or (pieces_in ps) n [] ++ items)) (sym at)

  -- one with the same items in the place of another
  pub pieces_kept : (ps : List (PieceParts T)) (k : ℕ) (old new : PieceParts T)
      → k < length ps → old ≡ slice_index_or ps k old → new.items ≡ old.items
      → pieces_in (slice_set ps k new) ≡ pieces_in ps
  pieces_kept ps k old new within is same =
      map-set (λ q. q.items) ps k new
      ∙ ap (slice_set (pieces_in ps) k) (same ∙ sym (piece_read ps k old within is))
      ∙ set-get_or (pieces_in ps) k []

  -- the spare ones
  pub spare_pushed : (size : ℕ) (ps : List (PieceParts T)) (p : PieceParts T)
      → AreSpare size ps → p.items ≡ [] → size ≤ p.room → AreSpare size (ps ++ p ∷ [])
  spare_pushed size [] p spare none has = ((none, has), spare)
  spare_pushed size (q ∷ ps) p spare none has =
      (spare.0, spare_pushed size ps p spare.1 none has)

  pub spare_taken : (size : ℕ) (ps : List (PieceParts T)) (p : PieceParts T)
      → AreSpare size (ps ++ p ∷ []) → AreSpare size ps
  spare_taken size [] p spare = spare.1
  spare_taken size (q ∷ ps) p spare = (spare.0, spare_taken size ps p spare.1)

  pub spare_last : (size : ℕ) (ps : List (PieceParts T)) (p : PieceParts T)
      → AreSpare size (ps ++ p ∷ []) → (p.items ≡ []) × (size ≤ p.room)
  spare_last size [] p spare = spare.0
  spare_last size (q ∷ ps) p spare = spare_last size ps p spare.1

  pub room_pushed : (ps : List (PieceParts T)) (p : PieceParts T)
      → last_room (ps ++ p ∷ []) ≡ p.room
  room_pushed ps p =
      let long = length_push ps p in
      ap room_in
      (last_is (ps ++ p ∷ []) (length ps) p (omega arith)
      (sym (get_or_push ps p p (length ps) refl)))

  -- what a put at the end of the last piece is, by its parts
  pub record IsSplit (pieces : List (List T)) (more : List T) : Type 0 where
    pub front : List (List T)
    pub last : List T
    pub is : pieces ≡ front ++ last ∷ []
    pub new : append_last pieces more ≡ front ++ (last ++ more) ∷ []
    pub number : length front + 1 ≡ length pieces
    pub start : last_length pieces ≡ length last

  pub split : (pieces : List (List T)) (more : List T) (k : ℕ) → k + 1 ≡ length pieces
      → IsSplit pieces more
  split pieces more k is =
      let at : length pieces - 1 ≡ k = omega arith in
      let end : length pieces ≤ k + 1 = omega arith in
      let none = drop_all (suc k) pieces (omega arith) in
      let last = slice_index_or pieces k [] in
      record {
        front = take k pieces;
        last = last;
        is = sym (take_all (k + 1) pieces end) ∙ take_more pieces k [] (omega arith);
        new =
            ap (λ n. slice_set pieces n (slice_index_or pieces n [] ++ more)) at
            ∙ set_split pieces k (last ++ more) (omega arith)
            ∙ ap (λ xs. take k pieces ++ (last ++ more) ∷ xs) none;
        number = omega (arith, length-take-le k pieces (omega arith));
        start = ap (λ n. length (slice_index_or pieces n [])) at;
      }

  -- one more copy of a piece
  pub copies_more : (old copies : List (PieceParts T)) (k : ℕ) (p copy : PieceParts T)
      → k < length old → p ≡ slice_index_or old k p
      → pieces_in copies ≡ pieces_in (take k old) → copy.items ≡ p.items
      → pieces_in (copies ++ copy ∷ []) ≡ pieces_in (take (k + 1) old)
  copies_more old copies k p copy within is same items =
      pieces_pushed copies copy
      ∙ (λ i. same i ++ items i ∷ [])
      ∙ sym (ap (λ q. pieces_in (take k old) ++ q.items ∷ []) (sym is))
      ∙ sym (pieces_pushed (take k old) (slice_index_or old k p))
      ∙ ap pieces_in (sym (take_more old k p within))

  pub room_more : (size : ℕ) (old copies : List (PieceParts T)) (k : ℕ) (p copy : PieceParts T)
      → k < length old → p ≡ slice_index_or old k p
      → (size ≤ length p.items + p.room → size ≤ length copy.items + copy.room)
      → LastHasRoom size (take (k + 1) old) → LastHasRoom size (copies ++ copy ∷ [])
  room_more size old copies k p copy within is keeps has =
      let long = length-take-le (k + 1) old (omega arith) in
      let at = is ∙ sym (get_or-take (k + 1) old k p (omega arith)) in
      last_pushed size copies copy
      (keeps (last_has_room size (take (k + 1) old) k p (omega arith) at has))
