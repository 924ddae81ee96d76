use Rattle.std.proofs.Common.{◌≡◌, ◌≤◌, false, cond, get_or}
use Rattle.difference_counts.specs.Numbers.{sum_to}
use Rattle.difference_counts.proofs.walk.how_many.Given as goal

abbrev pub invariant-loop-number : goal.invariant-loop-number
invariant-loop-number l = record {
  few : l.count ≤ l.number;
  whole : l.count ≡ sum_to l.number (λ number. cond (get_or l.ends number false) 1 0);
}
