use Rattle.std.proofs.Common.{◌/◌, ◌%◌, length, refl, ap, arith}
use Rattle.std.proofs.lemmas.List.{length-set}
use Rattle.std.specs.Vec.{with_item}
use Rattle.pieces.proofs.Filled.{items_counted, count_fits, is_held, held_within, IsPut, filled_with_put, items_with_put}
use Rattle.pieces.proofs.list.Pieces.set.Goals as goal

pub index_mut-piece-requires : goal.index_mut-piece-requires
index_mut-piece-requires g c =
    let items = ap (λ v. length v.items) c.self.view_is in
    let counted = items_counted _ _ c.self.invariant.filled in
    let fits = count_fits _ _ c.self.invariant.filled in
    omega (arith, c.self.inside.pieces.ok.0)

pub index_mut-requires : goal.index_mut-requires
index_mut-requires g c =
    let items = ap (λ v. length v.items) c.self.view_is in
    let counted = items_counted _ _ c.self.invariant.filled in
    let held = is_held c.self.inside.pieces.items c.self.inside.len c.args.place
    c.index_mut-piece.result.now (omega arith) c.index_mut-piece.ensures.value in
    held_within _ _ _ _ _ c.self.invariant.filled held

pub invariant_of-self : goal.invariant_of-self
invariant_of-self g c =
    let items = ap (λ v. length v.items) c.self.view_is in
    let counted = items_counted _ _ c.self.invariant.filled in
    let held = is_held c.self.inside.pieces.items c.self.inside.len c.args.place
    c.index_mut-piece.result.now (omega arith) c.index_mut-piece.ensures.value in
    let put : IsPut c.index_mut-piece.result.now
    (with_item c.index_mut-piece.result.now (c.args.place % 1024) c.args.item)
    (c.args.place % 1024) c.args.item = record { items = refl; room = refl } in
    record {
      filled = filled_with_put put _ _ _ c.self.invariant.filled held;
      bounded = rw (length-set c.self.inside.pieces.items (c.args.place / 1024)
          (with_item c.index_mut-piece.result.now (c.args.place % 1024) c.args.item))
          c.self.invariant.bounded;
    }

pub returns : goal.returns
returns g c =
    let items = ap (λ v. length v.items) c.self.view_is in
    let counted = items_counted _ _ c.self.invariant.filled in
    let held = is_held c.self.inside.pieces.items c.self.inside.len c.args.place
    c.index_mut-piece.result.now (omega arith) c.index_mut-piece.ensures.value in
    let put : IsPut c.index_mut-piece.result.now
    (with_item c.index_mut-piece.result.now (c.args.place % 1024) c.args.item)
    (c.args.place % 1024) c.args.item = record { items = refl; room = refl } in
    let all = items_with_put put c.self.inside.pieces.items c.self.inside.len
    (c.args.place / 1024) c.args.place c.self.invariant.filled held (omega arith) in
    let kept = length-set c.self.inside.pieces.items (c.args.place / 1024)
    (with_item c.index_mut-piece.result.now (c.args.place % 1024) c.args.item) in
    rw (← c.self.view_is, all, kept) refl
