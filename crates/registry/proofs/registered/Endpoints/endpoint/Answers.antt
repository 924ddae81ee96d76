use Rattle.std.proofs.Common.{ap, ◌∙◌}
use Rattle.registry.specs.Registration.{endpoint_of}
use Rattle.registry.proofs.LookUpLemmas.{Keyed-by_id, entry_found}
use Rattle.registry.specs.NumberedEndpoints.{by_id}
use Rattle.registry.proofs.SeenLemmas.{seen}
use Rattle.registry.proofs.registered.Endpoints.endpoint.Goals as goal

pub returns : goal.returns
returns c =
    let id = c.args.id.now in
    let entries = c.self.inside.by_number.entries in
    c.get.ensures
    ∙ entry_found id (by_id entries) (Keyed-by_id entries)
    ∙ ap (λ endpoints. endpoint_of endpoints id)
    (seen c.self.inside.by_number c.args.self.now c.self.view_is)
