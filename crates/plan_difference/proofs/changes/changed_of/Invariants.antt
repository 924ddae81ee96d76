use Rattle.std.proofs.Common.{take}
use Rattle.plan_difference.specs.Entries.{AreChanged}
use Rattle.plan_difference.proofs.changes.changed_of.Given as goal

abbrev pub invariant-loop-place : goal.invariant-loop-place
invariant-loop-place l =
    AreChanged l.old.commands l.new.commands (take l.place l.sets) l.changed
