use Rattle.std.proofs.Common.{◌≡◌, not, Some, None, sym, ap, ◌∙◌}
use Rattle.std.specs.Option.{option_copied}
use Rattle.registry.specs.Registration.{id_is_taken, same_address}
use Rattle.registry.proofs.LookUpLemmas.{Keyed-by_id, found_and, entry_taken}
use Rattle.registry.specs.NumberedEndpoints.{by_id, kept_endpoint_of}
use Rattle.registry.proofs.SeenLemmas.{seen}
use Rattle.registry.proofs.registered.Endpoints.id_is_taken.Goals as goal

pub returns-in-Some : goal.returns-in-Some
returns-in-Some c =
    let e = c.args.endpoint.now in
    let entries = by_id c.self.inside.by_number.entries in
    let found = c.in-Some.other.now in
    let entry : kept_endpoint_of entries e.id ≡ Some found =
    ap (kept_endpoint_of entries) (sym c.id.ensures) ∙ sym c.get.ensures
    ∙ ap option_copied c.in-Some.is in
    c.ne.ensures
    ∙ ap (λ address. not (same_address address c.address-in-Some.result)) c.address.ensures
    ∙ ap (λ address. not (same_address found.address address)) c.address-in-Some.ensures
    ∙ sym (ap (found_and (λ f. not (same_address f.address e.address))) entry)
    ∙ sym (entry_taken entries (Keyed-by_id c.self.inside.by_number.entries)
    c.self.invariant.0.distinct e)
    ∙ ap (λ endpoints. id_is_taken endpoints e)
    (seen c.self.inside.by_number c.args.self.now c.self.view_is)

pub returns-in-None : goal.returns-in-None
returns-in-None c =
    let e = c.args.endpoint.now in
    let entries = by_id c.self.inside.by_number.entries in
    let entry : kept_endpoint_of entries e.id ≡ None =
    ap (kept_endpoint_of entries) (sym c.id.ensures) ∙ sym c.get.ensures
    ∙ ap option_copied c.in-None.is in
    sym (ap (found_and (λ f. not (same_address f.address e.address))) entry)
    ∙ sym (entry_taken entries (Keyed-by_id c.self.inside.by_number.entries)
    c.self.invariant.0.distinct e)
    ∙ ap (λ endpoints. id_is_taken endpoints e)
    (seen c.self.inside.by_number c.args.self.now c.self.view_is)
