use Rattle.std.proofs.Common.{[], ap, ◌∙◌}
use Rattle.std.specs.Option.{option_copied}
use Rattle.compiler.specs.Plan.{row_meant}
use Rattle.compiler.specs.Priority.{named_priority}
use Rattle.registry.specs.Gateway.{gateway_by}
use Rattle.registry.specs.NumberedEndpoints.{endpoints_of}
use Rattle.registry.proofs.GatewayLemmas.{by_row}
use Rattle.registry.proofs.registry.Registry.gateway.Goals as goal

pub returns-in-Some : goal.returns-in-Some
returns-in-Some c =
    let named = c.in-Some.named.now.entries in
    by_row c.args.tables.now.commands (row_meant c.args.tables.now.commands c.args.row)
    c.args.self.now.endpoints c.args.zone.now c.args.prefix.now named
    (option_copied c.chosen.result)
    (c.chosen.ensures
    ∙ ap (λ r. gateway_by (named_priority named) r.endpoints c.args.zone.now c.args.prefix.now)
    c.self.view_is)
    c.in-Some.ensures

pub returns-in-None : goal.returns-in-None
returns-in-None c =
    by_row c.args.tables.now.commands (row_meant c.args.tables.now.commands c.args.row)
    c.args.self.now.endpoints c.args.zone.now c.args.prefix.now []
    (option_copied c.chosen-in-None.result)
    (c.chosen-in-None.ensures
    ∙ ap (λ named. gateway_by (named_priority named) (endpoints_of c.self.inside.endpoints)
    c.args.zone.now c.args.prefix.now) c.new-named.ensures.empty
    ∙ ap (λ r. gateway_by (named_priority []) r.endpoints c.args.zone.now c.args.prefix.now)
    c.self.view_is)
    c.in-None.ensures
