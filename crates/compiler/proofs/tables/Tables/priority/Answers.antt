use Rattle.std.proofs.Common.{[], ap, ◌∙◌}
use Rattle.std.specs.Prelude.{unwrap_or}
use Rattle.compiler.specs.declared.plans.TheConstants.{DEFAULT_GATEWAY_PRIORITY}
use Rattle.compiler.specs.Plan.{row_meant}
use Rattle.compiler.proofs.TableLemmas.{if_some, priority_by_named}
use Rattle.compiler.proofs.tables.Tables.priority.Goals as goal

pub returns-in-Some : goal.returns-in-Some
returns-in-Some c =
    if_some (row_meant c.args.self.now.commands c.args.row) _ _
    (λ used h. c.unwrap_or.ensures
    ∙ ap (λ o. unwrap_or o DEFAULT_GATEWAY_PRIORITY) (c.copied.ensures ∙ c.get.ensures.value)
    ∙ priority_by_named c.args.self.now.commands used c.in-Some.gateways.now.entries h
    c.args.gateway.now) c.in-Some.ensures

pub returns-in-None : goal.returns-in-None
returns-in-None c =
    if_some (row_meant c.args.self.now.commands c.args.row) _ _
    (λ used h. priority_by_named c.args.self.now.commands used [] h c.args.gateway.now)
    c.in-None.ensures
