use Rattle.std.proofs.Common.{ap, sym, subst, ◌∙◌, arith}
use Rattle.byte_log.specs.Pieces.{LastHasRoom, pieces_in}
use Rattle.byte_log.proofs.PieceLemmas.{copies_more, room_more}
use Rattle.byte_log.proofs.piece_list.share_each.Goals as goal

pub loop-piece-preserved : goal.loop-piece-preserved
loop-piece-preserved g c = record {
  same =
      ap pieces_in c.push_reserved.ensures.items
      ∙ copies_more c.args.pieces.now c.loop-piece.copies.items c.loop-piece.piece-index
      c.piece-item.result c.in_ok-share.field-0 c.loop-piece-test.true c.piece-item.is
      c.loop-piece.invariant.same c.in_ok-share.ensures.items;
  room = λ has.
      subst (LastHasRoom c.args.size) (sym c.push_reserved.ensures.items)
      (room_more c.args.size c.args.pieces.now c.loop-piece.copies.items
      c.loop-piece.piece-index c.piece-item.result c.in_ok-share.field-0
      c.loop-piece-test.true c.piece-item.is c.in_ok-share.ensures.room has);
  capacity = omega (arith, c.loop-piece.invariant.capacity, c.push_reserved.ensures.capacity);
}
