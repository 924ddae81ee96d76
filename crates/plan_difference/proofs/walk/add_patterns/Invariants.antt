use Rattle.std.proofs.Common.{◌≡◌, ℕ, ◌<◌, slice_get, Some, true}
use Rattle.digit_patterns.specs.PatternParts.{PatternParts}
use Rattle.plan_difference.specs.Entries.{Grows}
use Rattle.plan_difference.specs.Gathered.{has_no_star}
use Rattle.plan_difference.specs.Order.{Adds, IsOf}
use Rattle.plan_difference.specs.Walk.{SettlesPattern}
use Rattle.plan_difference.proofs.walk.add_patterns.Given as goal

abbrev pub invariant-loop-pattern : goal.invariant-loop-pattern
invariant-loop-pattern l = record {
  grows : Grows l.old.commands l.new.commands l.initial.sets l.sets;
  settles : (place : ℕ) → place < l.pattern-index → (pattern : PatternParts)
      → slice_get l.patterns place ≡ Some pattern
      → SettlesPattern l.old.commands l.new.commands l.sets l.heads l.group l.front pattern;
  literal : (place : ℕ) → place < l.pattern-index → (pattern : PatternParts)
      → slice_get l.patterns place ≡ Some pattern → has_no_star pattern.literals ≡ true;
  adds : Adds (IsOf l.group l.heads) l.initial.sets l.sets;
}
