use Rattle.std.proofs.Common.{eqb, get_or, ap, ◌∙◌}
use Rattle.raw_trie.specs.Nodes.{path_of}
use Rattle.raw_trie.specs.Trie.{with_end}
use Rattle.raw_trie.proofs.Insertion.{within_words}
use Rattle.raw_trie.proofs.Ends.{place_of, ended}
use Rattle.raw_trie.proofs.draft.Draft.add.Goals as goal

pub add_end-requires : goal.add_end-requires
add_end-requires c =
    within_words c.args.self.now.words.items c.node_of.new.self.words.items c.in_ok-node.node
    (path_of c.args.pattern.now) c.requires c.in_ok-node.ensures.1

pub returns : goal.returns
returns c =
    ended c.args.self.now.words.items c.node_of.new.self.words.items c.add_end.new.self.words.items
    c.in_ok-node.node (c.args.pattern.now, c.args.value) c.add_end.result c.in_ok-node.ensures.0
    c.in_ok-node.ensures.1
    (c.add_end.ensures.added ∙ ap
    (λ s. eqb (get_or c.node_of.new.self.words.items (place_of c.in_ok-node.node s) 0) 0)
    c.has_star.ensures)
    (c.add_end.ensures.words ∙ ap
    (λ s. with_end c.node_of.new.self.words.items (place_of c.in_ok-node.node s) c.args.value)
    c.has_star.ensures)
