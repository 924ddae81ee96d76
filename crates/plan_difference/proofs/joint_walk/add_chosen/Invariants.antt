use Rattle.std.proofs.Common.{◌≡◌, ℕ, ◌<◌, [], slice_get, Some, true}
use Rattle.digit_patterns.specs.PatternParts.{PatternParts}
use Rattle.plan_difference.specs.Blocked.{AreJoint}
use Rattle.plan_difference.specs.Entries.{Grows}
use Rattle.plan_difference.specs.Gathered.{has_no_star, joint}
use Rattle.plan_difference.specs.Order.{Adds, IsOf}
use Rattle.plan_difference.specs.Walk.{SettlesPattern}
use Rattle.plan_difference.proofs.joint_walk.add_chosen.Given as goal

abbrev pub invariant-loop-place : goal.invariant-loop-place
invariant-loop-place l = record {
  grows : Grows l.old.commands l.new.commands l.initial.sets l.sets;
  adds : Adds (IsOf joint l.heads) l.initial.sets l.sets;
  settles : (at : ℕ) → at < l.place → (pattern : PatternParts)
      → slice_get l.patterns at ≡ Some pattern → AreJoint l.old.commands l.new.commands l.heads
      → SettlesPattern l.old.commands l.new.commands l.sets l.heads joint [] pattern;
  literal : (at : ℕ) → at < l.place → (pattern : PatternParts)
      → slice_get l.patterns at ≡ Some pattern → has_no_star pattern.literals ≡ true;
}
