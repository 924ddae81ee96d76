use Rattle.std.proofs.Common.{◌∙◌, ap, subst, ◌++◌}
use Rattle.plan_difference.specs.Gathered.{KeepsAll, patterns_of}
use Rattle.plan_difference.proofs.GatherLemmas.{has_old_patterns, has_new_patterns}
use Rattle.plan_difference.proofs.gathering.patterns_in.Goals as goal

pub returns-clause-old : goal.returns-clause-old
returns-clause-old c =
    let new = c.args.new.now.commands in
    has_old_patterns c.args.old.now.commands new c.new-patterns.result.items
    c.put_in_order.new.patterns.items
    (subst (λ before. KeepsAll before c.put_in_order.new.patterns.items)
    (c.in_ok-add_patterns_of-2.ensures
    ∙ (λ i. (c.in_ok-add_patterns_of.ensures
    ∙ ap (λ lines. c.new-patterns.result.items ++ patterns_of lines) c.lines_of.ensures) i
    ++ patterns_of (c.lines_of-2.ensures i)))
    c.put_in_order.ensures)

pub returns-clause-new : goal.returns-clause-new
returns-clause-new c =
    let new = c.args.new.now.commands in
    has_new_patterns c.args.old.now.commands new c.new-patterns.result.items
    c.put_in_order.new.patterns.items
    (subst (λ before. KeepsAll before c.put_in_order.new.patterns.items)
    (c.in_ok-add_patterns_of-2.ensures
    ∙ (λ i. (c.in_ok-add_patterns_of.ensures
    ∙ ap (λ lines. c.new-patterns.result.items ++ patterns_of lines) c.lines_of.ensures) i
    ++ patterns_of (c.lines_of-2.ensures i)))
    c.put_in_order.ensures)
