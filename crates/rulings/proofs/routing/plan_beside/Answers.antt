use Rattle.std.proofs.Common.{Some, nat_lt, length, sym, ap, ◌∙◌}
use Rattle.compiler.specs.Technology.{found_length}
use Rattle.rulings.proofs.LearnedPlans.{begins_there, none_is_longer, none_learned, one_is_longer}
use Rattle.rulings.proofs.routing.plan_beside.Goals as goal

pub returns-in_default : goal.returns-in_default
returns-in_default c =
    c.requires.planned
    ∙ ap (λ target. Some target)
    (none_learned c.args.tables.now.commands c.args.registry.now.endpoints c.args.digits.now
    c.in_default.ensures)

pub returns-then-not-is_longer : goal.returns-then-not-is_longer
returns-then-not-is_longer c =
    let prefix = c.in-Some.prefix in
    c.requires.planned
    ∙ ap (λ target. Some target)
    (none_is_longer c.args.tables.now.commands c.args.registry.now.endpoints c.args.digits.now
    prefix c.in-Some.ensures
    (ap (λ declared. nat_lt (found_length declared) (length prefix)) (sym c.declared.ensures)
    ∙ sym c.is_longer.ensures ∙ c.if-not-is_longer.true))

pub plan_after-requires : goal.plan_after-requires
plan_after-requires c =
    begins_there c.args.tables.now.commands c.args.registry.now.endpoints c.args.digits.now
    c.in-Some.prefix c.in-Some.ensures

pub returns : goal.returns
returns c =
    let prefix = c.in-Some.prefix in
    c.plan_after.ensures
    ∙ ap (λ target. Some target)
    (one_is_longer c.args.tables.now.commands c.args.registry.now.endpoints c.args.digits.now
    prefix c.in-Some.ensures
    (ap (λ declared. nat_lt (found_length declared) (length prefix)) (sym c.declared.ensures)
    ∙ sym c.is_longer.ensures ∙ c.if-not-is_longer.false))
