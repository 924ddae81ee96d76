-- For how many short items there is room, and how much of it an item takes.
use Rattle.std.specs.Prelude.{ℕ, ◌+◌, ◌-◌, ◌*◌, ◌/◌, min}
use Rattle.byte_log.specs.Parts.{ListParts}
use Rattle.byte_log.specs.Pieces.{left_of}

-- of how many short items an item of so many bytes takes the room, at most: a short one of one; a
-- longer one nearly twice as much as it has bytes, since it may leave the end of a piece unused;
-- and one longer than a piece no more than one of a whole piece, since it gets a piece of its own
abbrev pub places_taken : ℕ → ℕ
places_taken bytes = 2 * ((min bytes 65536 - 1) / 138) + 1

-- for how many short items the pieces have room, by their bytes
abbrev pub bytes_room : ListParts ℕ → ℕ
bytes_room l = left_of l.size l.pieces / 138 + 474 * l.spare

-- and if there are so many free places
abbrev pub room_of : ListParts ℕ → ℕ → ℕ
room_of l places = min (bytes_room l) places
