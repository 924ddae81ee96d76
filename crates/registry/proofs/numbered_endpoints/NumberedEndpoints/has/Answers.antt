use Rattle.std.proofs.Common.{ap, ◌∙◌}
use Rattle.std.specs.Prelude.{is_some}
use Rattle.registry.specs.NumberedEndpoints.{NumberedParts, by_id, kept_endpoint_of}
use Rattle.registry.proofs.NumberLemmas.{known_is_kept}
use Rattle.registry.proofs.numbered_endpoints.NumberedEndpoints.has.Goals as goal

pub returns : goal.returns
returns c =
    let id = c.args.id.now in
    c.contains_key.ensures
    ∙ known_is_kept c.self.inside.endpoints.entries c.self.inside.numbers.entries
    c.self.inside.next c.self.invariant id
    ∙ ap (λ (r : NumberedParts). is_some (kept_endpoint_of (by_id r.entries) id)) c.self.view_is
