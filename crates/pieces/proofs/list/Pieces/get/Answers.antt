use Rattle.std.proofs.Common.{refl}
use Rattle.pieces.proofs.Filled.{item_found, item_looked_up}
use Rattle.pieces.proofs.list.Pieces.get.Goals as goal

pub returns-in_err-piece : goal.returns-in_err-piece
returns-in_err-piece g c =
    let piece = rw c.deref.ensures.value at c.get.ensures.lookup in
    let item = item_found _ _ c.args.place _ c.self.invariant.filled piece in
    rw (← c.self.view_is, item, c.from_residual.ensures, c.in_err-piece.was) refl

pub returns : goal.returns
returns g c =
    let piece = rw c.deref.ensures.value at c.get.ensures.lookup in
    let item = item_found _ _ c.args.place _ c.self.invariant.filled piece in
    let in_piece = rw c.deref-2.ensures.value at c.get-2.ensures.lookup in
    rw (← c.self.view_is, item, c.in_ok-piece.was) (item_looked_up _ _ _ in_piece)
