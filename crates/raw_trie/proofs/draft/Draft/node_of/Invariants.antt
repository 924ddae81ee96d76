use Rattle.std.proofs.Common.{take, replicate, ◌++◌}
use Rattle.raw_trie.specs.Trie.{GrowsTo}
use Rattle.raw_trie.proofs.draft.Draft.node_of.Given as goal

abbrev pub invariant-loop-digit : goal.invariant-loop-digit
invariant-loop-digit l =
    GrowsTo l.fn.self.words.items l.self.words.items l.node (take l.digit-index l.digit-items)

abbrev pub invariant-loop-dot : goal.invariant-loop-dot
invariant-loop-dot l =
    GrowsTo l.fn.self.words.items l.self.words.items l.node
    (l.pattern.literals ++ replicate l._dot 46)
