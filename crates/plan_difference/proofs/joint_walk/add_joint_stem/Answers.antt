use Rattle.plan_difference.specs.Blocked.{AreJoint}
use Rattle.plan_difference.specs.Gathered.{joint}
use Rattle.plan_difference.specs.Walk.{SettlesStem}
use Rattle.plan_difference.proofs.JointLemmas.{settles_anyway}
use Rattle.plan_difference.proofs.joint_walk.add_joint_stem.Goals as goal

pub returns-then-is_empty-clause-settles : goal.returns-then-is_empty-clause-settles
returns-then-is_empty-clause-settles c =
    let old = c.args.old.now.commands in
    let new = c.args.new.now.commands in
    let heads = c.args.heads.now in
    settles_anyway (AreJoint old new heads)
    (SettlesStem old new c.add_any.new.sets heads joint c.args.stem.now) c.add_any.result
    c.add_any.ensures.settles
