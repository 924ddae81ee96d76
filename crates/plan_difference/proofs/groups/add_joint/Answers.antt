use Rattle.std.proofs.Common.{[]}
use Rattle.plan_difference.specs.Gathered.{joint}
use Rattle.plan_difference.specs.Order.{IsOf}
use Rattle.plan_difference.proofs.OrderLemmas.{adds_both}
use Rattle.plan_difference.proofs.WalkLemmas.{grows_both, stem_kept}
use Rattle.plan_difference.proofs.groups.add_joint.Goals as goal

pub returns-clause-grows : goal.returns-clause-grows
returns-clause-grows c =
    grows_both c.args.old.now.commands c.args.new.now.commands c.args.sets.now
    c.add_stem.new.sets c.add_joint_patterns.new.sets c.add_joint_patterns.result
    c.add_joint_patterns.ensures.grows c.in_ok-add_stem.ensures.grows

pub returns-clause-alone : goal.returns-clause-alone
returns-clause-alone c =
    stem_kept c.args.old.now.commands c.args.new.now.commands c.args.sets.now
    c.add_stem.new.sets c.add_joint_patterns.new.sets c.add_joint_patterns.result
    c.add_joint_patterns.ensures.grows c.args.heads.now joint [] c.in_ok-add_stem.ensures.settles

pub returns-clause-adds : goal.returns-clause-adds
returns-clause-adds c =
    adds_both (IsOf joint c.args.heads.now) c.args.sets.now c.add_stem.new.sets
    c.add_joint_patterns.new.sets c.add_joint_patterns.result c.add_joint_patterns.ensures.adds
    c.in_ok-add_stem.ensures.adds
