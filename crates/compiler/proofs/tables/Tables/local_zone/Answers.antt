use Rattle.std.proofs.Common.{cond, Some, None, sym, ap, ◌∙◌}
use Rattle.std.specs.Option.{option_copied}
use Rattle.gk_commands.specs.Configuration.{Configuration}
use Rattle.gk_commands.specs.Zones.{zones_of}
use Rattle.compiler.proofs.TableLemmas.{local_zone_by}
use Rattle.compiler.proofs.tables.Tables.local_zone.Goals as goal

pub returns-then-is_local_option : goal.returns-then-is_local_option
returns-then-is_local_option c =
    sym (local_zone_by c.args.self.now.commands c.self.inside.zones.entries c.args.name.now
    c.zone_meant-zone.result.now (option_copied c.get.result)
    (c.self.invariant.zones_are
    ∙ ap (λ (configuration : Configuration). zones_of configuration.commands) c.self.view_is)
    c.zone_meant-zone.ensures c.get.ensures.value
    ∙ ap (λ local. cond local (Some c.zone_meant-zone.result.now) None)
    (sym c.is_local_option.ensures ∙ c.if-is_local_option.true))

pub returns-else-is_local_option : goal.returns-else-is_local_option
returns-else-is_local_option c =
    sym (local_zone_by c.args.self.now.commands c.self.inside.zones.entries c.args.name.now
    c.zone_meant-zone.result.now (option_copied c.get.result)
    (c.self.invariant.zones_are
    ∙ ap (λ (configuration : Configuration). zones_of configuration.commands) c.self.view_is)
    c.zone_meant-zone.ensures c.get.ensures.value
    ∙ ap (λ local. cond local (Some c.zone_meant-zone.result.now) None)
    (sym c.is_local_option.ensures ∙ c.if-is_local_option.false))
