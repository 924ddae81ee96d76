use Rattle.std.proofs.Common.{ap, sym, ◌∙◌, Some, drop, length}
use Rattle.compiler.specs.Plan.{target_of, by_row}
use Rattle.compiler.specs.Rows.{row_for}
use Rattle.compiler.proofs.PlanLemmas.{plan_with_hopoff, plan_without_hopoff}
use Rattle.compiler.proofs.tables.Tables.plan_by_technology.Goals as goal

pub returns-in-Some : goal.returns-in-Some
returns-in-Some c =
    ap (target_of c.args.self.now.commands) c.plan_to.ensures
    ∙ plan_with_hopoff c.args.self.now.commands c.args.digits.now c.args.prefix c.in-Some.zone
    c.requires.found (sym c.in-Some.is ∙ c.requires.hopoff)

pub returns-in-None : goal.returns-in-None
returns-in-None c =
    c.plan_by_row.ensures
    ∙ ap (λ n. Some (by_row c.args.self.now.commands (Some c.args.prefix)
    (row_for c.args.self.now.commands (drop n c.args.digits.now))))
    (ap length c.as_bytes.ensures.spells)
    ∙ ap (λ target. Some target)
    (sym (plan_without_hopoff c.args.self.now.commands c.args.digits.now c.args.prefix
    c.requires.found (sym c.in-None.is ∙ c.requires.hopoff)))
