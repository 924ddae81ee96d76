use Rattle.std.proofs.Common.{◌≡◌, ◌+◌}
use Rattle.byte_log.proofs.piece_list.PieceList.add_each.Given as goal

abbrev pub invariant-loop-added : goal.invariant-loop-added
invariant-loop-added g l = record {
  pieces : l.self.pieces ≡ l.fn.self.pieces;
  size : l.self.size ≡ l.fn.self.size;
  own : l.size ≡ l.fn.self.size;
  spare : l.self.spare ≡ l.fn.self.spare + l._added;
}
