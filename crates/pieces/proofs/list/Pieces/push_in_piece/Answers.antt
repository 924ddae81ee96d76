use Rattle.std.proofs.Common.{◌≡◌, ◌+◌, ◌*◌, ◌/◌, ◌-◌, length, replicate, slice_set, refl, ap, subst, arith}
use Rattle.std.proofs.lemmas.List.{length-set, length-replicate}
use Rattle.pieces.proofs.Filled.{items_counted, is_next, next_has_room, IsPushed, filled_with_items, items_with_items}
use Rattle.pieces.specs.Filled.{AreFilled}
use Rattle.pieces.proofs.list.Pieces.push_in_piece.Goals as goal

pub fill-requires : goal.fill-requires
fill-requires g c =
    let room = ap (λ v. v.room) c.self.view_is in
    let items = ap (λ v. length v.items) c.self.view_is in
    let counted = items_counted _ _ c.self.invariant.filled in
    let one = c.requires.one in
    let next = is_next c.self.inside.pieces.items c.self.inside.len c.index_mut-piece.result.now
    (omega arith) c.index_mut-piece.ensures.value in
    next_has_room _ _ _ c.args.count _ c.self.invariant.filled next (omega arith)

pub invariant_of-self : goal.invariant_of-self
invariant_of-self g c =
    let room = ap (λ v. v.room) c.self.view_is in
    let items = ap (λ v. length v.items) c.self.view_is in
    let counted = items_counted _ _ c.self.invariant.filled in
    let one = c.requires.one in
    let next = is_next c.self.inside.pieces.items c.self.inside.len c.index_mut-piece.result.now
    (omega arith) c.index_mut-piece.ensures.value in
    let pushed : IsPushed c.index_mut-piece.result.now c.fill.new.items
    (replicate c.args.count c.args.item) =
    record { items = c.fill.ensures.added; room = c.fill.ensures.room } in
    let many = length-replicate c.args.count c.args.item in
    record {
      filled = subst
          (λ n. AreFilled (slice_set c.self.inside.pieces.items (c.self.inside.len / 1024)
          c.fill.new.items) (c.self.inside.len + n))
          many
          (filled_with_items pushed _ _ _ c.self.invariant.filled next (omega arith));
      bounded = rw length-set c.self.invariant.bounded;
    }

pub returns : goal.returns
returns g c =
    let room = ap (λ v. v.room) c.self.view_is in
    let next = is_next c.self.inside.pieces.items c.self.inside.len c.index_mut-piece.result.now
    (omega arith) c.index_mut-piece.ensures.value in
    let pushed : IsPushed c.index_mut-piece.result.now c.fill.new.items
    (replicate c.args.count c.args.item) =
    record { items = c.fill.ensures.added; room = c.fill.ensures.room } in
    let items = items_with_items pushed _ _ _ c.self.invariant.filled next in
    let left : 1024 * length c.self.inside.pieces.items - (c.self.inside.len + c.args.count)
    ≡ 1024 * length c.self.inside.pieces.items - c.self.inside.len - c.args.count = omega arith in
    rw (← c.self.view_is, items, length-set, left) refl
