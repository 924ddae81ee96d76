-- Characters at a place.
use Rattle.std.specs.Prelude.{ℕ, ◌==◌, Bool, false, List, slice_get, Option, Some, None}

-- whether there is a number, and it is this one
abbrev pub is_just : ℕ → Option ℕ → Bool
is_just number None = false
is_just number (Some other) = other == number

-- whether a text has a character at a place
abbrev pub has_at : ℕ → ℕ → List ℕ → Bool
has_at place character text = is_just character (slice_get text place)
