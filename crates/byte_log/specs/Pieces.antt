-- How a list of pieces grows. No public clause of the crate cites this module.
use Rattle.std.specs.Prelude.{◌≡◌, ℕ, ◌+◌, ◌-◌, ◌<◌, ◌≤◌, List, [], ◌∷◌, ◌++◌, length, map, slice_get, slice_index_or, slice_set, Option, Some, None, IfSome, ⊤}
use Rattle.byte_log.specs.Parts.{PieceParts, ListParts}
use Rattle.byte_log.specs.declared.places.Place.{Place}

module _ {T : Type 0} where
  -- the items of each
  abbrev pub pieces_in : List (PieceParts T) → List (List T)
  pieces_in pieces = map (λ p. p.items) pieces

  -- how many items the last piece has
  abbrev pub last_length : List (List T) → ℕ
  last_length pieces = length (slice_index_or pieces (length pieces - 1) [])

  -- for how many it has room, if each has it for so many; nothing begins where there is no piece
  abbrev pub left_of : ℕ → List (List T) → ℕ
  left_of size [] = 0
  left_of size (piece ∷ rest) = size - last_length (piece ∷ rest)

  -- these items at the end of the last piece
  abbrev pub append_last : List (List T) → List T → List (List T)
  append_last pieces items =
      slice_set pieces (length pieces - 1)
      (slice_index_or pieces (length pieces - 1) [] ++ items)

  -- for how many items the last of these has room
  abbrev pub room_in : Option (PieceParts T) → ℕ
  room_in None = 0
  room_in (Some piece) = piece.room

  abbrev pub last_room : List (PieceParts T) → ℕ
  last_room pieces = room_in (slice_get pieces (length pieces - 1))

  -- the last piece has room for so many items in all
  abbrev pub LastHasRoom : ℕ → List (PieceParts T) → Type 0
  LastHasRoom size pieces =
      IfSome (slice_get pieces (length pieces - 1))
      (λ piece. size ≤ length piece.items + piece.room)

  -- these are empty, and each has room for so many items
  abbrev pub AreSpare : ℕ → List (PieceParts T) → Type 0
  AreSpare size [] = ⊤
  AreSpare size (piece ∷ rest) = ((piece.items ≡ []) × (size ≤ piece.room)) × AreSpare size rest

  -- what always holds of the pieces, for which their table has so many places, and of the spare
  -- ones
  pub record IsPieceList (pieces : List (PieceParts T)) (places : ℕ) (spare : List (PieceParts T))
      (size : ℕ) : Type 0 where
    pub last : LastHasRoom size pieces
    pub empty : AreSpare size spare
    pub table : length pieces + length spare ≤ places
    pub few : length pieces + length spare ≤ 65536
    pub some : 0 < size
    pub small : size ≤ 65536

  -- the items were put at the end of the last piece, and begin at this place
  pub record IsPut (old new : ListParts T) (items : List T) (place : Place) : Type 0 where
    pub is : new ≡ record old { pieces = append_last old.pieces items }
    pub piece : place.piece + 1 ≡ length old.pieces
    pub start : place.start ≡ last_length old.pieces

  -- they were put into a new piece, which was kept ready
  pub record IsBegun (old new : ListParts T) (items : List T) (place : Place) : Type 0 where
    pub pieces : new.pieces ≡ old.pieces ++ items ∷ []
    pub spare : new.spare + 1 ≡ old.spare
    pub size : new.size ≡ old.size
    pub piece : place.piece ≡ length old.pieces
    pub start : place.start ≡ 0
