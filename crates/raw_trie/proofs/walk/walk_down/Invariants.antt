use Rattle.std.proofs.Common.{◌≡◌, ◌+◌, ◌-◌, ◌≤◌, length, take, true}
use Rattle.std.specs.Char.{is_ascii_digit}
use Rattle.std.specs.List.{list_all}
use Rattle.raw_trie.specs.Walk.{AreNodes, LinkAt}
use Rattle.raw_trie.proofs.walk.walk_down.Given as goal

abbrev pub invariant-loop-next : goal.invariant-loop-next
invariant-loop-next l = record {
  within : l.depth ≤ length l.text;
  sized : length l.nodes ≡ 33;
  digits : list_all is_ascii_digit (take l.depth l.text) ≡ true;
  nodes : AreNodes l.trie l.text l.nodes l.depth;
  link : LinkAt l.trie l.text l.depth l.next;
  counted : l.looks ≡ l.initial.looks + l.depth;
}

abbrev pub decreases-loop-next : goal.decreases-loop-next
decreases-loop-next l = length l.text - l.depth
