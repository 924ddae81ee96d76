use Rattle.std.proofs.Common.{◌≡◌, ℕ, ◌<◌, List, slice_get, Option, Some, true}
use Rattle.std.specs.Prelude.{IfSome}
use Rattle.plan_difference.specs.Entries.{Grows}
use Rattle.plan_difference.specs.Gathered.{has_no_star}
use Rattle.plan_difference.specs.Order.{AddsInOrder}
use Rattle.plan_difference.specs.Walk.{SettlesHead}
use Rattle.plan_difference.proofs.groups.add_groups.Given as goal

abbrev pub invariant-loop-head : goal.invariant-loop-head
invariant-loop-head l = record {
  grows : Grows l.old.commands l.new.commands l.initial.sets l.sets;
  settles : (place : ℕ) → place < l.head-index → (head : Option (List ℕ))
      → slice_get l.heads place ≡ Some head
      → SettlesHead l.old.commands l.new.commands l.sets l.patterns head;
  clean : (place : ℕ) → place < l.head-index → (head : Option (List ℕ))
      → slice_get l.heads place ≡ Some head → IfSome head (λ prefix. has_no_star prefix ≡ true);
  adds : AddsInOrder l.old.commands l.new.commands l.heads l.head-index l.initial.sets l.sets;
}
