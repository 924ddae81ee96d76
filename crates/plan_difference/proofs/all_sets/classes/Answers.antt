use Rattle.std.proofs.Common.{sym, subst}
use Rattle.plan_difference.specs.Order.{IsEachOnce}
use Rattle.plan_difference.proofs.OrderLemmas.{all_grouped}
use Rattle.plan_difference.proofs.Theorem.{all_have_digits, whole_by}
use Rattle.plan_difference.proofs.all_sets.classes.Goals as goal

pub returns-clause-classes : goal.returns-clause-classes
returns-clause-classes c =
    whole_by c.args.old.now.commands c.args.new.now.commands c.in_ok-heads.heads.items
    c.in_ok-patterns.patterns.items c.new-sets.result c.add_joint.new.sets c.add_groups.new.sets
    c.new-sets.ensures c.in_ok-add_joint.ensures.grows c.in_ok-add_groups.ensures.grows
    c.len-count.ensures.once c.in_ok-heads.ensures.none c.in_ok-heads.ensures.old
    c.in_ok-heads.ensures.new c.in_ok-patterns.ensures.old c.in_ok-patterns.ensures.new
    c.in_ok-joint.joint.items c.deref.result.now c.deref-2.result.now c.deref-4.result.now
    c.deref-3.result.now c.deref-5.result.now c.in_ok-joint.ensures c.deref.ensures.value
    c.deref-2.ensures.value c.deref-3.ensures.value c.deref-4.ensures.value
    c.deref-5.ensures.value
    c.in_ok-add_joint.ensures.alone c.in_ok-add_joint.ensures.joint_patterns
    c.in_ok-add_joint.ensures.literal c.in_ok-add_groups.ensures.settles
    c.in_ok-add_groups.ensures.clean

pub returns-clause-digits : goal.returns-clause-digits
returns-clause-digits c =
    all_have_digits c.args.old.now.commands c.args.new.now.commands c.in_ok-heads.heads.items
    c.in_ok-patterns.patterns.items c.new-sets.result c.add_joint.new.sets c.add_groups.new.sets
    c.new-sets.ensures c.in_ok-add_joint.ensures.grows c.in_ok-add_groups.ensures.grows

pub returns-clause-grouped : goal.returns-clause-grouped
returns-clause-grouped c =
    all_grouped c.args.old.now.commands c.args.new.now.commands c.deref-4.result.now
    (subst IsEachOnce (sym c.deref-4.ensures.value) c.in_ok-heads.ensures.once)
    c.in_ok-add_groups.ensures.adds.0 c.deref-2.result.now c.new-sets.result c.add_joint.new.sets
    c.add_groups.new.sets c.new-sets.ensures c.in_ok-add_joint.ensures.adds
    c.in_ok-add_groups.ensures.adds.1
