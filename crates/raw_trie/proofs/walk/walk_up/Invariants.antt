use Rattle.std.proofs.Common.{◌≡◌, ◌+◌, ◌-◌, ◌*◌, ◌≤◌, length, None}
use Rattle.raw_trie.specs.Found.{IsTop}
use Rattle.raw_trie.specs.Looks.{dot_nodes_between}
use Rattle.raw_trie.proofs.Steps.{sum_to}
use Rattle.raw_trie.proofs.walk.walk_up.Given as goal

abbrev pub invariant-loop-depth : goal.invariant-loop-depth
invariant-loop-depth l = record {
  within : l.depth ≤ l.deepest + 1;
  above : IsTop l.trie l.text (66 * l.depth) None;
  counted : l.looks ≡ l.deepest + 1 + dot_nodes_between l.trie l.text l.depth (l.deepest + 1);
  few : l.looks ≤ l.depth + sum_to (length l.text + 1 - l.depth);
}

abbrev pub decreases-loop-depth : goal.decreases-loop-depth
decreases-loop-depth l = l.depth
