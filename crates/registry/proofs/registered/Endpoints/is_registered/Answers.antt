use Rattle.std.proofs.Common.{ap, ◌∙◌}
use Rattle.registry.specs.Registration.{is_registered}
use Rattle.registry.proofs.LookUpLemmas.{Keyed-by_id, entry_registered}
use Rattle.registry.specs.NumberedEndpoints.{by_id}
use Rattle.registry.proofs.SeenLemmas.{seen}
use Rattle.registry.proofs.registered.Endpoints.is_registered.Goals as goal

pub returns : goal.returns
returns c =
    let id = c.args.id.now in
    let entries = c.self.inside.by_number.entries in
    c.has.ensures
    ∙ entry_registered id (by_id entries) (Keyed-by_id entries)
    ∙ ap (λ endpoints. is_registered endpoints id)
    (seen c.self.inside.by_number c.args.self.now c.self.view_is)
