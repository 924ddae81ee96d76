-- Chunks in order are the whole.
use Rattle.std.proofs.Common.{◌≡◌, ◌<◌, ◌+◌, ◌*◌, ◌++◌, ◌∷◌, [], ℕ, List, Some, get_or, length, take, drop, map, ap, sym, ◌∙◌, arith}
use Rattle.std.specs.Prelude.{slice_get}
use Rattle.std.proofs.lemmas.Option.{get_or_from_slice_get, slice_get_within}
use Rattle.std.proofs.Math.Seq.{take-add}
use Rattle.std.proofs.lemmas.List.{map-append, drop-map, take-map, take_more, get_or-drop, length-drop}
use Rattle.trial_run.specs.Chunks.{chunk_of}

-- one chunk more
pub take_chunk : {X : Type 0} (size k : ℕ) (xs : List X)
    → take ((k + 1) * size) xs ≡ take (k * size) xs ++ chunk_of size k xs
take_chunk size k xs =
    let more : (k + 1) * size ≡ k * size + size = omega arith in
    ap (λ n. take n xs) more ∙ take-add (k * size) size xs

-- the same of what a function makes of each
pub map_chunk : {X Y : Type 0} (f : X → Y) (size k : ℕ) (xs : List X)
    → map f (take ((k + 1) * size) xs)
    ≡ map f (take (k * size) xs) ++ map f (chunk_of size k xs)
map_chunk f size k xs =
    ap (map f) (take_chunk size k xs)
    ∙ map-append f (take (k * size) xs) (chunk_of size k xs)

-- a chunk of what a function makes of each
pub chunk_of_map : {X Y : Type 0} (f : X → Y) (size k : ℕ) (xs : List X)
    → chunk_of size k (map f xs) ≡ map f (chunk_of size k xs)
chunk_of_map f size k xs =
    ap (take size) (drop-map f (k * size) xs) ∙ take-map f size (drop (k * size) xs)

-- one item more of those from a place on
pub map_more : {X Y : Type 0} (f : X → Y) (xs : List X) (from turn : ℕ) (x : X)
    → slice_get xs (from + turn) ≡ Some x
    → map f (take turn (drop from xs)) ++ f x ∷ [] ≡ map f (take (turn + 1) (drop from xs))
map_more f xs from turn x at =
    let within = slice_get_within xs (from + turn) x at in
    let low : turn < length (drop from xs) = rw (length-drop from xs) (omega (arith, within)) in
    let is : get_or (drop from xs) turn x ≡ x =
    get_or-drop from xs turn x ∙ get_or_from_slice_get xs (from + turn) x x at in
    sym (ap (map f) (take_more (drop from xs) turn x low
    ∙ ap (λ y. take turn (drop from xs) ++ y ∷ []) is)
    ∙ map-append f (take turn (drop from xs)) (x ∷ []))
