use Rattle.std.proofs.Common.{◌≡◌, ◌++◌, take}
use Rattle.raw_trie.proofs.block.copy.Given as goal

abbrev pub invariant-loop-place : goal.invariant-loop-place
invariant-loop-place l = record {
  written : l.block.words ≡ l.fn.block.words ++ take l.place l.words;
  room : l.block.room ≡ l.fn.block.room;
  start : l.block.at ≡ l.fn.block.at;
}
