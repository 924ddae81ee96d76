use Rattle.std.proofs.Common.{◌≡◌, ap, sym, subst, ◌∙◌, None, Some, drop}
use Rattle.gk_commands.specs.Configuration.{Configuration}
use Rattle.compiler.specs.Plan.{row_meant}
use Rattle.compiler.specs.Rows.{row_for}
use Rattle.compiler.proofs.TableLemmas.{index_no_hit, index_row_of_hit}
use Rattle.compiler.proofs.tables.Tables.row.Goals as goal

pub returns-in-Some : goal.returns-in-Some
returns-in-Some c =
    let text = drop c.args.from c.args.digits.now in
    ap (λ number. row_meant c.args.self.now.commands (Some number)) c.new.ensures
    ∙ subst (λ (configuration : Configuration).
    row_meant configuration.commands (Some c.in-Some.hit.value)
    ≡ Some (row_for configuration.commands text))
    c.self.view_is
    (index_row_of_hit c.self.invariant text c.in-Some.hit (sym c.best.ensures ∙ c.in-Some.is))

pub returns-in-None : goal.returns-in-None
returns-in-None c =
    let text = drop c.args.from c.args.digits.now in
    ap (λ used. Some used)
    (sym (subst (λ (configuration : Configuration). row_for configuration.commands text ≡ None)
    c.self.view_is
    (index_no_hit c.self.invariant text (sym c.best.ensures ∙ c.in-None.is))))
