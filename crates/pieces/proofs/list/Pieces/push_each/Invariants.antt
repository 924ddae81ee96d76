use Rattle.std.proofs.Common.{◌≡◌, ◌+◌, ◌++◌, replicate}
use Rattle.pieces.proofs.list.Pieces.push_each.Given as goal

abbrev pub invariant-loop-pushed : goal.invariant-loop-pushed
invariant-loop-pushed g l = record {
  items : l.self.items ≡ l.fn.self.items ++ replicate l._pushed l.item;
  room : l.self.room + l._pushed ≡ l.fn.self.room;
}
