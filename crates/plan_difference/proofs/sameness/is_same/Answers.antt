use Rattle.std.proofs.Common.{sym, ◌∙◌, true≢false}
use Rattle.compiler.specs.Plan.{target_of}
use Rattle.plan_difference.proofs.Priorities.{differs, agrees_by}
use Rattle.plan_difference.proofs.sameness.is_same.Goals as goal

pub returns-then-not-is_same_destination : goal.returns-then-not-is_same_destination
returns-then-not-is_same_destination c =
    let old = c.args.old.now.commands in
    let new = c.args.new.now.commands in
    differs old new (target_of old c.args.plan.now) (target_of new c.args.other.now)
    c.destination_of.result c.destination_of-2.result c.destination_of.ensures
    c.destination_of-2.ensures
    (λ e. true≢false (sym (c.is_same_destination.ensures.1 e) ∙ c.if-not-is_same_destination.true))

pub returns : goal.returns
returns c =
    let old = c.args.old.now.commands in
    let new = c.args.new.now.commands in
    agrees_by old new (target_of old c.args.plan.now) (target_of new c.args.other.now)
    c.destination_of.result c.destination_of-2.result c.destination_of.ensures
    c.destination_of-2.ensures
    (c.is_same_destination.ensures.0 c.if-not-is_same_destination.false)
    c.row_of.result c.row_of-2.result (c.row_of.ensures old) (c.row_of-2.ensures new)
    c.are_same_priorities.result c.are_same_priorities.ensures
