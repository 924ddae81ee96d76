-- Chunks of equal size.
use Rattle.std.specs.Prelude.{ℕ, List, ◌*◌, take, drop}

-- the chunk of a number, from 0; the last ones may be shorter, or empty
abbrev pub chunk_of : {X : Type 0} → ℕ → ℕ → List X → List X
chunk_of size number items = take size (drop (number * size) items)
