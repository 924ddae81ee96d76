use Rattle.std.proofs.Common.{◌≡◌, take, filter}
use Rattle.difference_counts.specs.Branches.{has_room}
use Rattle.difference_counts.proofs.branches.branches_of.Given as goal

abbrev pub invariant-loop-branch : goal.invariant-loop-branch
invariant-loop-branch l = l.kept.items ≡ filter (has_room l.room) (take l.branch-index l.branches)
