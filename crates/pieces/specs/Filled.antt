-- How the items of a list lie in its pieces. No public clause cites this module.
use Rattle.std.specs.Prelude.{◌≡◌, ℕ, ◌-◌, ◌*◌, ◌^◌, ◌<◌, ◌≤◌, min, List, [], ◌∷◌, length, Vec, vec_items, vec_capacity}

module _ {T A : Type 0} where
  -- the piece has the first of so many items, as far as 1024, and room for 1024
  pub record HasFirst (piece : Vec T A) (count : ℕ) : Type 0 where
    pub items : length (vec_items piece) ≡ min 1024 count
    pub room : 1024 ≤ vec_capacity piece

  -- the pieces have so many items in all, and each is full before there is one in the next
  abbrev pub AreFilled : List (Vec T A) → ℕ → Type 0
  AreFilled [] count = count ≡ 0
  AreFilled (piece ∷ rest) count = HasFirst piece count × AreFilled rest (count - 1024)

  -- and they have room for fewer than 2^63 items
  pub record IsFilled (pieces : List (Vec T A)) (count : ℕ) : Type 0 where
    pub filled : AreFilled pieces count
    pub bounded : 1024 * length pieces < 2 ^ 63
