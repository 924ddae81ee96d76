use Rattle.std.proofs.Common.{length, ap, arith}
use Rattle.pieces.proofs.Filled.{items_counted}
use Rattle.pieces.proofs.list.Pieces.push_copies.Goals as goal

pub push_in_piece-requires-clause-one : goal.push_in_piece-requires-clause-one
push_in_piece-requires-clause-one g c =
    let items = ap (λ v. length v.items) c.self.view_is in
    let counted = items_counted _ _ c.self.invariant.filled in
    omega arith
