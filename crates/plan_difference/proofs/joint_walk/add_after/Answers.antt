use Rattle.plan_difference.proofs.JointLemmas.{joint_adds, settled_by_chosen, settled_without_one}
use Rattle.plan_difference.proofs.joint_walk.add_after.Goals as goal

pub returns-in-Some-clause-adds : goal.returns-in-Some-clause-adds
returns-in-Some-clause-adds c =
    joint_adds c.in-Some.head.now c.args.heads.now c.args.sets.now c.add_alone.new.sets
    c.add_alone.result c.add_alone.ensures.adds

pub returns-in-Some-clause-settles : goal.returns-in-Some-clause-settles
returns-in-Some-clause-settles c =
    settled_by_chosen c.args.old.now.commands c.args.new.now.commands c.args.heads.now
    c.args.stem.now c.add_alone.new.sets c.in-Some.head.now c.args.chosen.now c.in-Some.ensures
    c.requires c.add_alone.result c.add_alone.ensures.settles

pub returns-in-None-clause-settles : goal.returns-in-None-clause-settles
returns-in-None-clause-settles c = λ each.
    settled_without_one c.args.old.now.commands c.args.new.now.commands c.args.heads.now
    c.args.stem.now c.args.sets.now c.args.chosen.now c.in-None.ensures c.requires
