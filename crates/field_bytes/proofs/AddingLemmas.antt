-- Bytes that are added one after another.
use Rattle.std.proofs.Common.{ℕ, List, ◌++◌, ap, ◌∙◌, append_assoc, length-append, arith}
use Rattle.std.specs.Global.{Vec}
use Rattle.field_bytes.specs.Adding.{Adds, HasRoom}

module _ (old mid : Vec ℕ) (x y : List ℕ) (first : Adds old x mid) where
  -- there is room for those that come next
  pub room_left : HasRoom old (x ++ y) → HasRoom mid y
  room_left room =
      let count = first.count in
      let more = first.room in
      let both = length-append x y in
      omega (arith, count, more, both, room)

  -- and they were added too
  pub both_added : (new : Vec ℕ) → Adds mid y new → Adds old (x ++ y) new
  both_added new next =
      let first_count = first.count in
      let next_count = next.count in
      let first_room = first.room in
      let next_room = next.room in
      let both = length-append x y in
      record {
        items = next.items ∙ ap (λ (l : List ℕ). l ++ y) first.items
            ∙ append_assoc old.items x y;
        count = omega (arith, first_count, next_count, both);
        room = omega (arith, first_room, next_room);
      }

-- there is room for those that come first
pub room_first : (old : Vec ℕ) (x y : List ℕ) → HasRoom old (x ++ y) → HasRoom old x
room_first old x y room = let both = length-append x y in omega (arith, both, room)
