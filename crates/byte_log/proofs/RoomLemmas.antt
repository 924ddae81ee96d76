-- What room there is after one more item.
use Rattle.std.proofs.Common.{◌≡◌, ℕ, ◌+◌, ◌-◌, ◌*◌, ◌/◌, ◌<◌, ◌≤◌, max, List, [], ◌∷◌, ◌++◌, length, refl, sym, ap, subst, ◌∙◌, inl, inr, length-append, length-set, get_or-set_same, arith}
use Rattle.std.specs.Prelude.{slice_index_or}
use Rattle.std.proofs.lemmas.Bool.{cases_lt}
use Rattle.std.proofs.lemmas.List.{length_push, get_or_push}
use Rattle.byte_log.specs.Items.{items_of, AreIn, IsLog}
use Rattle.byte_log.specs.Parts.{ListParts}
use Rattle.byte_log.specs.Pieces.{append_last, last_length, left_of, IsBegun, IsPut}
use Rattle.byte_log.specs.Room.{bytes_room, places_taken}
use Rattle.byte_log.specs.declared.places.Place.{Place}
use Rattle.byte_log.proofs.ItemLemmas.{put_at_end, put_in_new}
use Rattle.byte_log.proofs.PieceLemmas.{left_some, some_left}

-- what is left of the last piece, and of a new one
module _ {T : Type 0} where
  pub left_put : (size : ℕ) (ps : List (List T)) (items : List T) → 0 < length ps
      → left_of size (append_last ps items) ≡ left_of size ps - length items
  left_put size ps items some =
      let k = length ps - 1 in
      let last = slice_index_or ps k [] in
      let long = length-set ps k (last ++ items) in
      let at : length (append_last ps items) - 1 ≡ k = omega arith in
      let there = ap length (get_or-set_same ps k (last ++ items) [] (omega arith)) in
      let end : last_length (append_last ps items) ≡ length (last ++ items) =
      ap (λ n. length (slice_index_or (append_last ps items) n [])) at ∙ there in
      omega (
        arith,
        left_some size ps some,
        left_some size (append_last ps items) (omega arith),
        end,
        length-append last items,
      )

  pub left_begun : (size : ℕ) (ps : List (List T)) (items : List T)
      → left_of size (ps ++ items ∷ []) ≡ size - length items
  left_begun size ps items =
      let long = length_push ps items in
      let at : length (ps ++ items ∷ []) - 1 ≡ length ps = omega arith in
      let end : last_length (ps ++ items ∷ []) ≡ length items =
      ap (λ n. length (slice_index_or (ps ++ items ∷ []) n [])) at
      ∙ ap length (get_or_push ps items [] (length ps) refl) in
      left_some size (ps ++ items ∷ []) (omega arith) ∙ ap (λ n. size - n) end

-- by plain numbers
room_put : (left bytes spare : ℕ) → max 1 bytes ≤ left → left ≤ 65536
    → left / 138 + 474 * spare ≤ (left - bytes) / 138 + 474 * spare + places_taken bytes
room_put left bytes spare fits small = omega arith

room_begun : (left bytes spare : ℕ) → left < max 1 bytes → left ≤ 65536
    → left / 138 + 474 * (spare + 1)
    ≤ (65536 - bytes) / 138 + 474 * spare + places_taken bytes
room_begun left bytes spare full small = omega arith

pub left_small : {T : Type 0} (size : ℕ) (ps : List (List T)) → left_of size ps ≤ size
left_small size [] = omega arith
left_small size (p ∷ ps) = omega arith

-- if there is room for an item, it fits in the last piece or there is another
pub is_spare : (left bytes spare : ℕ) → places_taken bytes ≤ left / 138 + 474 * spare
    → left < max 1 bytes → left ≤ 65536 → 0 < spare
is_spare left bytes spare room full small = omega arith

-- one more item
pub record IsPushed (old new : ListParts ℕ) (places : List Place) (place : Place)
    (item : List ℕ) : Type 0 where
  pub log : IsLog new (places ++ place ∷ [])
  pub items : items_of new.pieces (places ++ place ∷ [])
      ≡ items_of old.pieces places ++ item ∷ []
  pub room : bytes_room old ≤ bytes_room new + places_taken (length item)

put_last : (old new : ListParts ℕ) (places : List Place) (place : Place) (item : List ℕ)
    → IsLog old places → max 1 (length item) ≤ left_of old.size old.pieces
    → IsPut old new item place → IsPushed old new places place item
put_last old new places place item log fits put =
    let some = some_left old.size old.pieces (omega arith) in
    let more = put_at_end old.pieces places place item log.are_in put.piece put.start in
    let left = left_put old.size old.pieces item some in
    let small = left_small old.size old.pieces in
    let room = room_put (left_of old.size old.pieces) (length item) old.spare fits
    (omega (arith, log.size)) in
    subst (λ l. IsPushed old l places place item) (sym put.is) (record {
      log = record { are_in = more.are_in; size = log.size };
      items = more.items;
      room = rw left room;
    })

put_new : (old new : ListParts ℕ) (places : List Place) (place : Place) (item : List ℕ)
    → IsLog old places → left_of old.size old.pieces < max 1 (length item)
    → IsBegun old new item place → IsPushed old new places place item
put_new old new places place item log full begun =
    let more = put_in_new old.pieces places place item log.are_in begun.piece begun.start in
    let left = left_begun new.size old.pieces item in
    let small = left_small old.size old.pieces in
    let size : new.size ≡ 65536 = begun.size ∙ log.size in
    let room = room_begun (left_of old.size old.pieces) (length item) new.spare full
    (omega (arith, log.size)) in
    let now : left_of new.size new.pieces ≡ 65536 - length item =
    ap (left_of new.size) begun.pieces ∙ left ∙ ap (λ n. n - length item) size in
    record {
      log = record {
        are_in = subst (λ ps. AreIn ps (places ++ place ∷ [])) (sym begun.pieces) more.are_in;
        size = size;
      };
      items = ap (λ ps. items_of ps (places ++ place ∷ [])) begun.pieces ∙ more.items;
      room = rw (now, ← begun.spare) room;
    }

pub pushed : (old new : ListParts ℕ) (places : List Place) (place : Place) (item : List ℕ)
    → IsLog old places
    → (max 1 (length item) ≤ left_of old.size old.pieces → IsPut old new item place)
    → (left_of old.size old.pieces < max 1 (length item) → IsBegun old new item place)
    → IsPushed old new places place item
pushed old new places place item log put begun =
    elim (cases_lt (left_of old.size old.pieces) (max 1 (length item))) [
      | inl full ↦ put_new old new places place item log full (begun full)
      | inr fits ↦ put_last old new places place item log fits (put fits)
    ]
