use Rattle.std.proofs.Common.{◌≡◌, take, filter}
use Rattle.difference_counts.specs.Branches.{branch_has_at}
use Rattle.difference_counts.proofs.branches.branches_with.Given as goal

abbrev pub invariant-loop-branch : goal.invariant-loop-branch
invariant-loop-branch l =
    l.kept.items ≡ filter (branch_has_at l.place l.character) (take l.branch-index l.branches)
