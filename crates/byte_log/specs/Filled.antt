-- How places lie in pieces of 16,384, all but the last of which are full. No public clause cites
-- this module.
use Rattle.std.specs.Prelude.{◌≡◌, ℕ, ◌+◌, ◌*◌, ◌≤◌, List, [], ◌∷◌, length, ⊤}
use Rattle.std.specs.List.{flat_map}
use Rattle.byte_log.specs.Parts.{ListParts}
use Rattle.byte_log.specs.Pieces.{left_of}

module _ {T : Type 0} where
  -- what they hold in all
  abbrev pub items_in : List (List T) → List T
  items_in pieces = flat_map (λ piece. piece) pieces

  abbrev pub AreFull : List (List T) → Type 0
  AreFull [] = ⊤
  AreFull (piece ∷ []) = length piece ≤ 16384
  AreFull (piece ∷ next ∷ rest) = (length piece ≡ 16384) × AreFull (next ∷ rest)

  -- for how many further ones there is room
  abbrev pub places_room : ListParts T → ℕ
  places_room l = left_of l.size l.pieces + 16384 * l.spare

  -- what always holds of them
  pub record IsPlaceList (l : ListParts T) : Type 0 where
    pub full : AreFull l.pieces
    pub size : l.size ≡ 16384
