use Rattle.std.proofs.Common.{◌∙◌, ap, length, sym, subst}
use Rattle.plan_difference.specs.Blocked.{AreChosen}
use Rattle.plan_difference.proofs.joint_walk.add_joint_patterns.Goals as goal

pub add_chosen-requires-clause-size : goal.add_chosen-requires-clause-size
add_chosen-requires-clause-size c =
    ap length c.deref.ensures.value ∙ c.in_ok-chosen.ensures.size

pub add_chosen-requires-clause-chosen : goal.add_chosen-requires-clause-chosen
add_chosen-requires-clause-chosen c =
    subst (AreChosen c.args.old.now.commands c.args.new.now.commands c.args.heads.now
    c.args.patterns.now 33) (sym c.deref.ensures.value) c.in_ok-chosen.ensures.chosen
