-- Which items lie in the pieces of a log. No public clause cites this module.
use Rattle.std.specs.Prelude.{◌≡◌, ℕ, ◌-◌, ◌<◌, ◌≤◌, ◌==◌, List, [], ◌∷◌, length, take, drop, slice_get, slice_index_or, Option, Some, None, IfSome, if◌then◌else◌, ⊤}
use Rattle.byte_log.specs.Parts.{ListParts}
use Rattle.byte_log.specs.declared.places.Place.{Place}

-- the bytes of the piece of this number
abbrev pub piece_at : List (List ℕ) → ℕ → List ℕ
piece_at pieces number = slice_index_or pieces number []

-- where an item ends in its piece: where the next one begins, if that lies in the same piece, and
-- else at its end
abbrev pub end_of : List ℕ → Place → Option Place → ℕ
end_of piece place None = length piece
end_of piece place (Some next) =
    if next.piece == place.piece then next.start else length piece

abbrev pub item_from : List ℕ → Place → Option Place → List ℕ
item_from piece place next =
    take (end_of piece place next - place.start) (drop place.start piece)

-- the items that begin at these places
abbrev pub items_of : List (List ℕ) → List Place → List (List ℕ)
items_of pieces [] = []
items_of pieces (place ∷ rest) =
    item_from (piece_at pieces place.piece) place (slice_get rest 0) ∷ items_of pieces rest

-- an item lies in its piece, and the next one in no earlier piece
pub record IsIn (pieces : List (List ℕ)) (place : Place) (next : Option Place) : Type 0 where
  pub there : place.piece < length pieces
  pub begins : place.start ≤ end_of (piece_at pieces place.piece) place next
  pub ends : end_of (piece_at pieces place.piece) place next
      ≤ length (piece_at pieces place.piece)
  pub rises : IfSome next (λ later. place.piece ≤ later.piece)

abbrev pub AreIn : List (List ℕ) → List Place → Type 0
AreIn pieces [] = ⊤
AreIn pieces (place ∷ rest) = IsIn pieces place (slice_get rest 0) × AreIn pieces rest

-- what always holds of a log
pub record IsLog (l : ListParts ℕ) (places : List Place) : Type 0 where
  pub are_in : AreIn l.pieces places
  pub size : l.size ≡ 65536
