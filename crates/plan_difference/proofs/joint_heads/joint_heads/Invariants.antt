use Rattle.std.proofs.Common.{◌≡◌, take}
use Rattle.std.specs.List.{filter}
use Rattle.plan_difference.specs.Gathered.{is_joint_head}
use Rattle.plan_difference.proofs.joint_heads.joint_heads.Given as goal

abbrev pub invariant-loop-head : goal.invariant-loop-head
invariant-loop-head l =
    l.kept.items
    ≡ filter (is_joint_head l.old.commands l.new.commands) (take l.head-index l.heads)
