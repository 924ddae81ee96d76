use Rattle.std.proofs.Common.{◌≡◌, ◌+◌, ◌-◌, ◌*◌, ◌≤◌, ◌++◌, length, take, replicate}
use Rattle.std.specs.Prelude.{IfSome}
use Rattle.raw_trie.specs.Found.{IsFound}
use Rattle.raw_trie.specs.Walk.{Shows}
use Rattle.raw_trie.proofs.walk.longest_dots.Given as goal

abbrev pub invariant-loop-dots : goal.invariant-loop-dots
invariant-loop-dots l = record {
  shown : Shows l.trie (take l.literals l.text ++ replicate l.dots 46) l.seen;
  found : IsFound l.trie l.text (66 * l.literals) (66 * l.literals + 2 * l.dots) l.best;
  within : l.literals + l.dots ≤ length l.text;
  literals : IfSome l.best (λ hit. hit.literals ≡ l.literals);
  counted : l.looks ≡ l.initial.looks + l.dots;
}

abbrev pub decreases-loop-dots : goal.decreases-loop-dots
decreases-loop-dots l = length l.text - l.dots
