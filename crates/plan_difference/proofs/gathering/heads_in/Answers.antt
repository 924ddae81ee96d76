use Rattle.std.proofs.Common.{◌∙◌, subst, ◌++◌}
use Rattle.plan_difference.specs.Gathered.{KeepsAll}
use Rattle.plan_difference.proofs.GatherLemmas.{heads_of, has_none, has_old_prefixes, has_new_prefixes}
use Rattle.plan_difference.proofs.gathering.heads_in.Goals as goal

pub returns-clause-none : goal.returns-clause-none
returns-clause-none c =
    let old = c.args.old.now.commands in
    let new = c.args.new.now.commands in
    has_none old new c.new-heads.result.items c.put_heads_in_order.new.heads.items
    (subst (λ before. KeepsAll before c.put_heads_in_order.new.heads.items)
    (c.in_ok-add_prefixes_of-2.ensures
    ∙ (λ i. (c.in_ok-add_prefixes_of.ensures
    ∙ (λ j. c.in_ok-push.ensures.items j ++ heads_of (c.lines_of.ensures j))) i
    ++ heads_of (c.lines_of-2.ensures i)))
    c.put_heads_in_order.ensures.kept)

pub returns-clause-old : goal.returns-clause-old
returns-clause-old c =
    let old = c.args.old.now.commands in
    let new = c.args.new.now.commands in
    has_old_prefixes old new c.new-heads.result.items c.put_heads_in_order.new.heads.items
    (subst (λ before. KeepsAll before c.put_heads_in_order.new.heads.items)
    (c.in_ok-add_prefixes_of-2.ensures
    ∙ (λ i. (c.in_ok-add_prefixes_of.ensures
    ∙ (λ j. c.in_ok-push.ensures.items j ++ heads_of (c.lines_of.ensures j))) i
    ++ heads_of (c.lines_of-2.ensures i)))
    c.put_heads_in_order.ensures.kept)

pub returns-clause-new : goal.returns-clause-new
returns-clause-new c =
    let old = c.args.old.now.commands in
    let new = c.args.new.now.commands in
    has_new_prefixes old new c.new-heads.result.items c.put_heads_in_order.new.heads.items
    (subst (λ before. KeepsAll before c.put_heads_in_order.new.heads.items)
    (c.in_ok-add_prefixes_of-2.ensures
    ∙ (λ i. (c.in_ok-add_prefixes_of.ensures
    ∙ (λ j. c.in_ok-push.ensures.items j ++ heads_of (c.lines_of.ensures j))) i
    ++ heads_of (c.lines_of-2.ensures i)))
    c.put_heads_in_order.ensures.kept)
