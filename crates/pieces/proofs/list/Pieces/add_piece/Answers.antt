use Rattle.std.proofs.Common.{◌≡◌, ◌+◌, ◌*◌, ◌-◌, length, refl, arith}
use Rattle.std.proofs.lemmas.List.{length_push}
use Rattle.pieces.proofs.Filled.{filled_with_room, same_items, count_fits}
use Rattle.pieces.proofs.list.Pieces.add_piece.Goals as goal

pub invariant_of-self-2 : goal.invariant_of-self-2
invariant_of-self-2 g c =
    let new = c.in_ok-piece.ensures in
    rw (c.push_reserved.ensures.items, c.reserve.ensures.items) (record {
      filled = filled_with_room _ new.items new.capacity _ _ c.self.invariant.filled;
      bounded = rw length_push (omega (arith, c.self.inside.pieces.ok.0));
    })

pub returns-clause-ok : goal.returns-clause-ok
returns-clause-ok g c =
    let new = c.in_ok-piece.ensures in
    let items = same_items c.in_ok-piece.piece new.items new.capacity c.self.inside.pieces.items in
    let fits = count_fits _ _ c.self.invariant.filled in
    let more : 1024 * (length c.self.inside.pieces.items + 1) - c.self.inside.len
    ≡ 1024 * length c.self.inside.pieces.items - c.self.inside.len + 1024 = omega arith in
    rw (← c.self.view_is, c.push_reserved.ensures.items, c.reserve.ensures.items)
    (rw (items, length_push, more) refl)
