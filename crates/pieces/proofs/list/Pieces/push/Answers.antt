use Rattle.std.proofs.Common.{◌≡◌, ◌+◌, ◌*◌, ◌-◌, [], ◌∷◌, length, refl, ap, arith}
use Rattle.std.proofs.lemmas.List.{length-set}
use Rattle.pieces.proofs.Filled.{is_next, next_has_room, IsPushed, filled_with_items, items_with_items}
use Rattle.pieces.proofs.list.Pieces.push.Goals as goal

pub push_reserved-requires : goal.push_reserved-requires
push_reserved-requires g c =
    let room = ap (λ v. v.room) c.self.view_is in
    let next = is_next c.self.inside.pieces.items c.self.inside.len c.index_mut-piece.result.now
    (omega arith) c.index_mut-piece.ensures.value in
    let has = next_has_room _ _ _ 1 _ c.self.invariant.filled next (omega (arith, next.high)) in
    omega arith

pub invariant_of-self : goal.invariant_of-self
invariant_of-self g c =
    let room = ap (λ v. v.room) c.self.view_is in
    let next = is_next c.self.inside.pieces.items c.self.inside.len c.index_mut-piece.result.now
    (omega arith) c.index_mut-piece.ensures.value in
    let pushed : IsPushed c.index_mut-piece.result.now c.push_reserved.new.self (c.args.item ∷ []) =
    record { items = c.push_reserved.ensures.items; room = c.push_reserved.ensures.capacity } in
    record {
      filled = filled_with_items pushed _ _ _ c.self.invariant.filled next
          (omega (arith, next.high));
      bounded = rw length-set c.self.invariant.bounded;
    }

pub returns : goal.returns
returns g c =
    let room = ap (λ v. v.room) c.self.view_is in
    let next = is_next c.self.inside.pieces.items c.self.inside.len c.index_mut-piece.result.now
    (omega arith) c.index_mut-piece.ensures.value in
    let pushed : IsPushed c.index_mut-piece.result.now c.push_reserved.new.self (c.args.item ∷ []) =
    record { items = c.push_reserved.ensures.items; room = c.push_reserved.ensures.capacity } in
    let items = items_with_items pushed _ _ _ c.self.invariant.filled next in
    let left : 1024 * length c.self.inside.pieces.items - (c.self.inside.len + 1)
    ≡ 1024 * length c.self.inside.pieces.items - c.self.inside.len - 1 = omega arith in
    rw (← c.self.view_is, items, length-set, left) refl
