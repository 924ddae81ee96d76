use Rattle.gk_commands.proofs.AcceptedLemmas.{names_differ}
use Rattle.compiler.proofs.TableLemmas.{few_zones}
use Rattle.compiler.proofs.parts.parts_in.Goals as goal

pub zones_in-requires : goal.zones_in-requires
zones_in-requires c = names_differ c.args.commands.now c.requires.accepted

pub limits_in-requires : goal.limits_in-requires
limits_in-requires c =
    few_zones c.args.commands.now c.in_ok-zones.zones.entries c.in_ok-zones.ensures
    c.requires.accepted

pub technologies_in-requires : goal.technologies_in-requires
technologies_in-requires c =
    few_zones c.args.commands.now c.in_ok-zones.zones.entries c.in_ok-zones.ensures
    c.requires.accepted

pub routes_in-requires-clause-zones : goal.routes_in-requires-clause-zones
routes_in-requires-clause-zones c =
    few_zones c.args.commands.now c.in_ok-zones.zones.entries c.in_ok-zones.ensures
    c.requires.accepted

pub returns-clause-few_zones : goal.returns-clause-few_zones
returns-clause-few_zones c =
    few_zones c.args.commands.now c.in_ok-zones.zones.entries c.in_ok-zones.ensures
    c.requires.accepted
