use Rattle.std.proofs.Common.{◌≡◌, take}
use Rattle.digit_patterns.specs.Duplicate.{duplicate_of}
use Rattle.digit_patterns.proofs.Duplicates.{duplicate_after}
use Rattle.raw_trie.specs.Trie.{IsTrie, paths_of}
use Rattle.raw_trie.proofs.trie.RawTrie.build.Given as goal

abbrev pub invariant-loop-place : goal.invariant-loop-place
invariant-loop-place l = record {
  trie : IsTrie (take l.place l.rows) (paths_of (take l.place l.rows)) l.draft.words.items;
  searched : duplicate_of l.rows ≡ duplicate_after l.rows l.place;
  meant : l.meaning.rows ≡ take l.place l.rows;
}
