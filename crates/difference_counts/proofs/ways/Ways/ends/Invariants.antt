use Rattle.std.proofs.Common.{◌≡◌, ◌<◌, ◌||◌, ℕ, not, false, get_or, length}
use Rattle.difference_counts.specs.Ahead.{has_next}
use Rattle.difference_counts.specs.Numbers.{character_at}
use Rattle.difference_counts.proofs.ways.Ways.ends.Given as goal

abbrev pub invariant-loop-number : goal.invariant-loop-number
invariant-loop-number l = record {
  size : length l.ends ≡ 12;
  each : (number : ℕ) → number < l.number → get_or l.ends number false ≡ not
      (has_next l.self.old.technology l.self.old.prefixes.items l.self.old.patterns.items l.count
      (character_at number)
      || has_next l.self.new.technology l.self.new.prefixes.items l.self.new.patterns.items
      l.count (character_at number));
}
