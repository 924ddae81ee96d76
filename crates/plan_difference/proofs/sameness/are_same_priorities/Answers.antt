use Rattle.std.proofs.Common.{sym, ◌∙◌}
use Rattle.compiler.specs.Priority.{AreNamedFor}
use Rattle.plan_difference.specs.Sameness.{row_in}
use Rattle.plan_difference.proofs.Priorities.{of_row, tells_same, tells_other}
use Rattle.plan_difference.proofs.sameness.are_same_priorities.Goals as goal

pub returns-then-not-agree_on : goal.returns-then-not-agree_on
returns-then-not-agree_on c =
    tells_other c.args.old.now.commands (row_in c.args.old.now.commands c.args.row.now)
    c.args.new.now.commands (row_in c.args.new.now.commands c.args.other.now) _
    (sym c.if-not-agree_on.true ∙ c.agree_on.ensures)

pub returns : goal.returns
returns c =
    let old = c.args.old.now.commands in
    let new = c.args.new.now.commands in
    tells_same old (row_in old c.args.row.now) new (row_in new c.args.other.now) _ _
    (of_row old c.args.row.now (λ used. AreNamedFor old used _) c.requires.old c.gateways.ensures)
    (of_row new c.args.other.now (λ used. AreNamedFor new used _) c.requires.new
    c.gateways-2.ensures)
    c.agree_on.result c.agree_on-2.result c.if-not-agree_on.false c.agree_on.ensures
    c.agree_on-2.ensures
