use Rattle.std.proofs.Common.{◌≡◌, ℕ, ◌<◌, ◌≤◌, length}
use Rattle.std.specs.Prelude.{None, slice_index_or}
use Rattle.std.specs.List.Sorted.{IsPermutation}
use Rattle.plan_difference.specs.Blocked.{ArePassed, AreRising, IsTried, literals_at}
use Rattle.plan_difference.proofs.choosing.choose_by.Given as goal

abbrev pub invariant-loop-place : goal.invariant-loop-place
invariant-loop-place l = record {
  passed : ArePassed l.old.commands l.new.commands l.heads l.firsts
      (literals_at l.patterns l.before);
  rising : AreRising l.firsts;
  moved : IsPermutation l.initial.heads l.heads;
  tried : (at : ℕ) → at < l.place → 0 < length (literals_at l.patterns at)
      → IsTried l.old.commands l.new.commands l.initial.heads (literals_at l.patterns at)
      (slice_index_or l.initial.chosen at None) (slice_index_or l.chosen at None);
  rest : (at : ℕ) → l.place ≤ at
      → slice_index_or l.chosen at None ≡ slice_index_or l.initial.chosen at None;
}
