use Rattle.std.proofs.Common.{◌≡◌, ◌≤◌, length, take}
use Rattle.std.specs.Prelude.{vec_capacity}
use Rattle.byte_log.specs.Pieces.{LastHasRoom, pieces_in}
use Rattle.byte_log.proofs.piece_list.share_each.Given as goal

abbrev pub invariant-loop-piece : goal.invariant-loop-piece
invariant-loop-piece g l = record {
  same : pieces_in l.copies.items ≡ pieces_in (take l.piece-index l.pieces);
  room : LastHasRoom l.size (take l.piece-index l.pieces)
      → LastHasRoom l.size l.copies.items;
  capacity : length l.pieces ≤ vec_capacity l.copies;
}
