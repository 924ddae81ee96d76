use Rattle.std.proofs.Common.{◌≡◌, length}
use Rattle.std.specs.Prelude.{vec_items}
use Rattle.std.specs.List.{flat_map}
use Rattle.raw_trie.proofs.block.Block.of.Given as goal

abbrev pub invariant-loop-piece : goal.invariant-loop-piece
invariant-loop-piece l = record {
  next : (goal.iterator-loop-piece).can_next l.piece-iterator;
  finite : (goal.iterator-loop-piece).is_finite l.piece-iterator;
  written : l.block.words ≡ flat_map vec_items l.yielded;
  counted : l.written ≡ length l.block.words;
  room : l.block.room ≡ l.initial.block.room;
  start : l.block.at ≡ l.initial.block.at;
}
