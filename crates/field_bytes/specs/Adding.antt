-- Bytes that are added to a vector, in room that it has.
use Rattle.std.specs.Prelude.{◌≡◌, ℕ, ◌+◌, ◌≤◌, List, ◌++◌, length, vec_len, vec_capacity}
use Rattle.std.specs.Global.{Vec}

-- there is room for these bytes
abbrev pub HasRoom : Vec ℕ → List ℕ → Type 0
HasRoom old bytes = vec_len old + length bytes ≤ vec_capacity old

-- these bytes were added, and it has no less room than before
pub record Adds (old : Vec ℕ) (bytes : List ℕ) (new : Vec ℕ) : Type 0 where
  pub items : new.items ≡ old.items ++ bytes
  pub count : vec_len new ≡ vec_len old + length bytes
  pub room : vec_capacity old ≤ vec_capacity new
