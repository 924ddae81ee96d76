use Rattle.std.proofs.Common.{subst}
use Rattle.std.specs.Prelude.{MatchOption}
use Rattle.registry.specs.RegistryIndex.{NoneServes, IsNextServing}
use Rattle.registry.proofs.ServedChanges.{next_serves}
use Rattle.registry.proofs.registered.Endpoints.next_serving.Goals as goal

pub returns : goal.returns
returns c =
    let zone = c.args.zone.now in
    let prefix = c.args.prefix.now in
    let from = c.args.from in
    subst (λ r. MatchOption c.next_from.result (NoneServes r.entries zone prefix from)
    (IsNextServing r.entries zone prefix from)) c.self.view_is
    (next_serves c.self.inside.serving c.self.inside.by_number.entries zone prefix from
    c.self.invariant.1
    c.next_from.result c.next_from.ensures)
