use Rattle.std.proofs.Common.{ℕ, ◌<◌}
use Rattle.plan_difference.specs.Entries.{Grows}
use Rattle.plan_difference.specs.Order.{Adds, IsOf}
use Rattle.plan_difference.specs.Walk.{Settles}
use Rattle.plan_difference.proofs.walk.add_stem.Given as goal

abbrev pub invariant-loop-stars : goal.invariant-loop-stars
invariant-loop-stars l = record {
  grows : Grows l.old.commands l.new.commands l.initial.sets l.sets;
  settles : (stars : ℕ) → stars < l.stars
      → Settles l.old.commands l.new.commands l.sets l.heads l.group l.stem stars;
  adds : Adds (IsOf l.group l.heads) l.initial.sets l.sets;
}
