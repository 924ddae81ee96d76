use Rattle.std.specs.Prelude.{Some, None}
use Rattle.registry.proofs.KeepingLemmas.{local_as_told}
use Rattle.explanation.proofs.givers.is_local.Goals as goal

pub returns-in-Some : goal.returns-in-Some
returns-in-Some c =
    local_as_told c.args.tables.now.commands c.args.zone.now (Some c.in-Some.view)
    c.in-Some.ensures

pub returns-in-None : goal.returns-in-None
returns-in-None c =
    local_as_told c.args.tables.now.commands c.args.zone.now None c.in-None.ensures
