use Rattle.plan_difference.proofs.OrderLemmas.{picked_adds}
use Rattle.plan_difference.proofs.WalkLemmas.{settled_without}
use Rattle.plan_difference.proofs.walk.add_at.Goals as goal

pub returns-in-None-clause-settles : goal.returns-in-None-clause-settles
returns-in-None-clause-settles c =
    settled_without c.args.old.now.commands c.args.new.now.commands c.args.sets.now
    c.args.heads.now c.args.group.now c.args.stem.now c.args.stars c.in-None.ensures

pub returns-in-Some-clause-adds : goal.returns-in-Some-clause-adds
returns-in-Some-clause-adds c =
    picked_adds c.args.old.now.commands c.args.new.now.commands c.args.heads.now c.args.group.now
    c.args.stem.now c.args.stars c.in-Some.digits c.in-Some.ensures c.args.sets.now
    c.add.new.sets c.add.result c.add.ensures.noted
