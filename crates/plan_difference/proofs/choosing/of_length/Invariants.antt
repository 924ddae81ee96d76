use Rattle.std.proofs.Common.{◌≡◌, take}
use Rattle.std.specs.List.{filter}
use Rattle.plan_difference.specs.Blocked.{has_length}
use Rattle.plan_difference.proofs.choosing.of_length.Given as goal

abbrev pub invariant-loop-head : goal.invariant-loop-head
invariant-loop-head l = l.those.items ≡ filter (has_length l.size) (take l.head-index l.heads)
