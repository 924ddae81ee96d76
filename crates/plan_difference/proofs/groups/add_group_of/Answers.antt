use Rattle.std.proofs.Common.{sym, subst, ap, ◌≤◌, ◌∙◌, length}
use Rattle.compiler.specs.Technology.{found_length, technology_of}
use Rattle.plan_difference.proofs.Finding.{found_within}
use Rattle.plan_difference.proofs.OrderLemmas.{own_adds}
use Rattle.plan_difference.proofs.groups.add_group_of.Goals as goal

pub add_group-requires-clause-old : goal.add_group-requires-clause-old
add_group-requires-clause-old c =
    subst (λ text. found_length c.declared.result ≤ length text) c.dialled-text.ensures.same
    (found_within c.args.old.now.commands c.dialled-text.result c.declared.result
    (sym c.declared.ensures))

pub add_group-requires-clause-new : goal.add_group-requires-clause-new
add_group-requires-clause-new c =
    subst (λ text. found_length c.declared-2.result ≤ length text) c.dialled-text.ensures.same
    (found_within c.args.new.now.commands c.dialled-text.result c.declared-2.result
    (sym c.declared-2.ensures))

pub returns-clause-adds : goal.returns-clause-adds
returns-clause-adds c =
    own_adds c.args.old.now.commands c.args.new.now.commands c.args.prefix.now
    c.declared.result c.declared-2.result
    (c.declared.ensures ∙ ap (technology_of c.args.old.now.commands) c.dialled-text.ensures.same)
    (c.declared-2.ensures ∙ ap (technology_of c.args.new.now.commands) c.dialled-text.ensures.same)
    (sym c.is_joint.ensures ∙ c.if-is_joint.false) c.args.sets.now c.add_group.new.sets
    c.add_group.result c.add_group.ensures.adds
