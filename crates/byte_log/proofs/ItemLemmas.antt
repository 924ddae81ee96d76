-- Which item a place leads to, and what one more item changes.
use Rattle.std.proofs.Common.{◌≡◌, ℕ, zero, suc, ◌+◌, ◌-◌, ◌<◌, ◌≤◌, List, [], ◌∷◌, ◌++◌, length, take, drop, refl, sym, ap, subst, ◌∙◌, inl, inr, length-append, take_all, le_refl, ◌≢◌, arith}
use Rattle.std.specs.Prelude.{slice_get, Option, Some, None}
use Rattle.std.proofs.lemmas.Bool.{cases_lt, eq-eqb, ne_eqb}
use Rattle.std.proofs.lemmas.List.{get_or_append_left, get_or_push, take-append-le, drop-append-le, drop_at, length-drop, length_push}
use Rattle.std.proofs.lemmas.Option.{none-some, same_Some}
use Rattle.byte_log.specs.Items.{piece_at, end_of, item_from, items_of, IsIn, AreIn}
use Rattle.byte_log.specs.Pieces.{append_last, last_length}
use Rattle.byte_log.specs.declared.places.Place.{Place}
use Rattle.byte_log.proofs.PieceLemmas.{split}

pub items_counted : (pieces : List (List ℕ)) (places : List Place)
    → length (items_of pieces places) ≡ length places
items_counted pieces [] = refl
items_counted pieces (place ∷ rest) = ap suc (items_counted pieces rest)

-- the item at a place
read_next : (pieces : List (List ℕ)) (places : List Place) (k : ℕ) (place : Place)
    → slice_get places k ≡ Some place
    → slice_get (items_of pieces places) k
    ≡ Some (item_from (piece_at pieces place.piece) place (slice_get places (suc k)))
read_next pieces [] k place is = absurd (none-some place is)
read_next pieces (first ∷ rest) zero place is =
    let same = same_Some first place is in
    ap (λ (p : Place). Some (item_from (piece_at pieces p.piece) p (slice_get rest 0))) same
read_next pieces (first ∷ rest) (suc k) place is = read_next pieces rest k place is

pub item_read : (pieces : List (List ℕ)) (places : List Place) (k : ℕ) (place : Place)
    → slice_get places k ≡ Some place
    → slice_get (items_of pieces places) k
    ≡ Some (item_from (piece_at pieces place.piece) place (slice_get places (k + 1)))
item_read pieces places k place is =
    let on : suc k ≡ k + 1 = omega arith in
    subst
    (λ n. slice_get (items_of pieces places) k
    ≡ Some (item_from (piece_at pieces place.piece) place (slice_get places n))) on
    (read_next pieces places k place is)

pub item_absent : (pieces : List (List ℕ)) (places : List Place) (k : ℕ)
    → slice_get places k ≡ None → slice_get (items_of pieces places) k ≡ None
item_absent pieces [] k none = refl
item_absent pieces (first ∷ rest) zero none = absurd (none-some first (sym none))
item_absent pieces (first ∷ rest) (suc k) none = item_absent pieces rest k none

-- it lies in its piece
in_next : (pieces : List (List ℕ)) (places : List Place) (k : ℕ) (place : Place)
    → AreIn pieces places → slice_get places k ≡ Some place
    → IsIn pieces place (slice_get places (suc k))
in_next pieces [] k place are is = absurd (none-some place is)
in_next pieces (first ∷ rest) zero place are is =
    subst (λ p. IsIn pieces p (slice_get rest 0)) (same_Some first place is) are.0
in_next pieces (first ∷ rest) (suc k) place are is = in_next pieces rest k place are.1 is

pub is_in : (pieces : List (List ℕ)) (places : List Place) (k : ℕ) (place : Place)
    → AreIn pieces places → slice_get places k ≡ Some place
    → IsIn pieces place (slice_get places (k + 1))
is_in pieces places k place are is =
    let on : suc k ≡ k + 1 = omega arith in
    subst (λ n. IsIn pieces place (slice_get places n)) on
    (in_next pieces places k place are is)

-- what lies between two places of a piece stays as bytes are put at its end
between : (start end : ℕ) (bytes more : List ℕ) → start ≤ end → end ≤ length bytes
    → take (end - start) (drop start (bytes ++ more)) ≡ take (end - start) (drop start bytes)
between start end bytes more order within =
    ap (take (end - start)) (drop-append-le start bytes more (omega arith))
    ∙ take-append-le (end - start) (drop start bytes) more
    (omega (arith, length-drop start bytes))

-- what was put there
put_there : (bytes more : List ℕ)
    → take (length (bytes ++ more) - length bytes) (drop (length bytes) (bytes ++ more)) ≡ more
put_there bytes more =
    ap (take (length (bytes ++ more) - length bytes)) (drop_at bytes more (length bytes) refl)
    ∙ take_all (length (bytes ++ more) - length bytes) more
    (omega (arith, length-append bytes more))

-- one more item at the end of the last piece
module _ (front : List (List ℕ)) (last more : List ℕ) where
  abbrev before : List (List ℕ)
  before = front ++ last ∷ []

  abbrev after : List (List ℕ)
  after = front ++ (last ++ more) ∷ []

  at_front : (k : ℕ) → k < length front → piece_at after k ≡ piece_at before k
  at_front k within =
      get_or_append_left front ((last ++ more) ∷ []) [] k within
      ∙ sym (get_or_append_left front (last ∷ []) [] k within)

  at_last : (k : ℕ) (x : List ℕ) → k ≡ length front → piece_at (front ++ x ∷ []) k ≡ x
  at_last k x at = get_or_push front x [] k (sym at)

  -- what an item is and where it ends, as long as the next one stays the same
  record StaysSame (place : Place) (next : Option Place) : Type 0 where
    item : item_from (piece_at after place.piece) place next
        ≡ item_from (piece_at before place.piece) place next
    is_in : IsIn after place next

  stays_front : (place : Place) (next : Option Place) → place.piece < length front
      → IsIn before place next → StaysSame place next
  stays_front place next within is =
      let same = at_front place.piece within in
      record {
        item = ap (λ piece. item_from piece place next) same;
        is_in = record {
          there = omega (arith, length_push front (last ++ more));
          begins = subst (λ piece. place.start ≤ end_of piece place next) (sym same) is.begins;
          ends = subst (λ piece. end_of piece place next ≤ length piece) (sym same) is.ends;
          rises = is.rises;
        };
      }

  -- an item of the last piece, which another follows there
  stays_last : (place next : Place) → place.piece ≡ length front → next.piece ≡ place.piece
      → place.start ≤ next.start → next.start ≤ length last → StaysSame place (Some next)
  stays_last place next at same order within =
      let test = eq-eqb next.piece place.piece same in
      let new = at_last place.piece (last ++ more) at in
      let old = at_last place.piece last at in
      let long = length-append last more in
      let further : next.start ≤ length (last ++ more) = omega arith in
      record {
        item = rw (new, old, test) (between place.start next.start last more order within);
        is_in = record {
          there = omega (arith, length_push front (last ++ more));
          begins = rw (new, test) order;
          ends = rw (new, test) further;
          rises = omega arith;
        };
      }

  -- so any item that another follows
  stays : (place next : Place) → IsIn before place (Some next) → next.piece < length before
      → StaysSame place (Some next)
  stays place next is there =
      let long = length_push front last in
      let high = is.there in
      let rises = is.rises in
      elim (cases_lt place.piece (length front)) [
        | inl within ↦ stays_front place (Some next) within is
        | inr past ↦
            let at : place.piece ≡ length front = omega arith in
            let same : next.piece ≡ place.piece = omega arith in
            let test = eq-eqb next.piece place.piece same in
            let old = at_last place.piece last at in
            let order : place.start ≤ next.start = rw (old, test) at is.begins in
            let within : next.start ≤ length last = rw (old, test) at is.ends in
            stays_last place next at same order within
      ]

  -- the place of the new item, and the item itself
  module _ (new : Place) (number : new.piece ≡ length front) (start : new.start ≡ length last) where
    new_item : item_from (piece_at after new.piece) new None ≡ more
    new_item = rw (at_last new.piece (last ++ more) number, start) (put_there last more)

    new_is_in : IsIn after new None
    new_is_in =
        let piece = at_last new.piece (last ++ more) number in
        let long = length-append last more in
        let begins : new.start ≤ length (last ++ more) = omega arith in
        record {
          there = omega (arith, length_push front (last ++ more));
          begins = rw piece begins;
          ends = rw piece (le_refl (length (last ++ more)));
          rises = tt;
        }

    -- the item that was the last before
    record IsFollowed (place : Place) : Type 0 where
      item : item_from (piece_at after place.piece) place (Some new)
          ≡ item_from (piece_at before place.piece) place None
      is_in : IsIn after place (Some new)

    followed : (place : Place) → IsIn before place None → IsFollowed place
    followed place is =
        let long = length_push front last in
        let high = is.there in
        elim (cases_lt place.piece (length front)) [
          | inl within ↦
              let same = at_front place.piece within in
              let other : new.piece ≢ place.piece = λ e. absurd (omega arith) in
              let test = ne_eqb new.piece place.piece other in
              record {
                item = rw (same, test) refl;
                is_in = record {
                  there = omega (arith, length_push front (last ++ more));
                  begins = rw (same, test) is.begins;
                  ends = rw (same, test) is.ends;
                  rises = omega arith;
                };
              }
          | inr past ↦
              let at : place.piece ≡ length front = omega arith in
              let same : new.piece ≡ place.piece = omega arith in
              let test = eq-eqb new.piece place.piece same in
              let old = at_last place.piece last at in
              let order : place.start ≤ length last = rw old at is.begins in
              let further = le_refl (length last) in
              let at_new : place.start ≤ new.start = omega arith in
              let within : new.start ≤ length last = omega arith in
              let both = stays_last place new at same at_new within in
              let end : item_from (piece_at before place.piece) place (Some new)
              ≡ item_from (piece_at before place.piece) place None =
              rw (old, test, start) refl in
              record { item = both.item ∙ end; is_in = both.is_in }
        ]

    -- the whole
    pub items_more : (places : List Place) → AreIn before places
        → items_of after (places ++ new ∷ []) ≡ items_of before places ++ more ∷ []
    items_more [] are = ap (λ x. x ∷ []) new_item
    items_more (place ∷ []) are =
        ap (λ x. x ∷ item_from (piece_at after new.piece) new None ∷ [])
        (followed place are.0).item
        ∙ ap (λ y. item_from (piece_at before place.piece) place None ∷ y ∷ []) new_item
    items_more (place ∷ next ∷ rest) are =
        ap (λ x. x ∷ items_of after ((next ∷ rest) ++ new ∷ []))
        (stays place next are.0 are.1.0.there).item
        ∙ ap (λ xs. item_from (piece_at before place.piece) place (Some next) ∷ xs)
        (items_more (next ∷ rest) are.1)

    pub are_more : (places : List Place) → AreIn before places
        → AreIn after (places ++ new ∷ [])
    are_more [] are = (new_is_in, tt)
    are_more (place ∷ []) are = ((followed place are.0).is_in, (new_is_in, tt))
    are_more (place ∷ next ∷ rest) are =
        ((stays place next are.0 are.1.0.there).is_in, are_more (next ∷ rest) are.1)

-- one more piece changes no item
module _ (pieces : List (List ℕ)) (piece : List ℕ) where
  same_piece : (place : Place) (next : Option Place) → IsIn pieces place next
      → piece_at (pieces ++ piece ∷ []) place.piece ≡ piece_at pieces place.piece
  same_piece place next is =
      get_or_append_left pieces (piece ∷ []) [] place.piece is.there

  pub items_kept : (places : List Place) → AreIn pieces places
      → items_of (pieces ++ piece ∷ []) places ≡ items_of pieces places
  items_kept [] are = refl
  items_kept (place ∷ rest) are =
      ap
      (λ p. item_from p place (slice_get rest 0) ∷ items_of (pieces ++ piece ∷ []) rest)
      (same_piece place (slice_get rest 0) are.0)
      ∙ ap (λ xs. item_from (piece_at pieces place.piece) place (slice_get rest 0) ∷ xs)
      (items_kept rest are.1)

  pub are_kept : (places : List Place) → AreIn pieces places
      → AreIn (pieces ++ piece ∷ []) places
  are_kept [] are = tt
  are_kept (place ∷ rest) are =
      let next = slice_get rest 0 in
      let same = same_piece place next are.0 in
      let high = are.0.there in (
        record {
          there = omega (arith, length_push pieces piece);
          begins = subst (λ p. place.start ≤ end_of p place next) (sym same) are.0.begins;
          ends = subst (λ p. end_of p place next ≤ length p) (sym same) are.0.ends;
          rises = are.0.rises;
        },
        are_kept rest are.1,
      )

-- an item that was put at the end of the last piece
pub record IsMore (pieces : List (List ℕ)) (places : List Place) (new : List (List ℕ))
    (place : Place) (more : List ℕ) : Type 0 where
  pub items : items_of new (places ++ place ∷ []) ≡ items_of pieces places ++ more ∷ []
  pub are_in : AreIn new (places ++ place ∷ [])

pub put_at_end : (pieces : List (List ℕ)) (places : List Place) (place : Place) (more : List ℕ)
    → AreIn pieces places → place.piece + 1 ≡ length pieces
    → place.start ≡ last_length pieces
    → IsMore pieces places (append_last pieces more) place more
put_at_end pieces places place more are number start =
    let parts = split pieces more place.piece number in
    let at : place.piece ≡ length parts.front = omega (arith, parts.number) in
    let from : place.start ≡ length parts.last = start ∙ parts.start in
    let there = subst (λ ps. AreIn ps places) parts.is are in
    record {
      items =
          ap (λ ps. items_of ps (places ++ place ∷ [])) parts.new
          ∙ items_more parts.front parts.last more place at from places there
          ∙ ap (λ ps. items_of ps places ++ more ∷ []) (sym parts.is);
      are_in = subst (λ ps. AreIn ps (places ++ place ∷ [])) (sym parts.new)
          (are_more parts.front parts.last more place at from places there);
    }

-- and one that was put into a new piece
pub put_in_new : (pieces : List (List ℕ)) (places : List Place) (place : Place) (more : List ℕ)
    → AreIn pieces places → place.piece ≡ length pieces → place.start ≡ 0
    → IsMore pieces places (pieces ++ more ∷ []) place more
put_in_new pieces places place more are number start =
    let there = are_kept pieces [] places are in
    record {
      items =
          items_more pieces [] more place number start places there
          ∙ ap (λ xs. xs ++ more ∷ []) (items_kept pieces [] places are);
      are_in = are_more pieces [] more place number start places there;
    }
