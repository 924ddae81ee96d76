use Rattle.std.proofs.Common.{ap, subst, ◌∙◌}
use Rattle.registry.specs.Registration.{without_endpoint, endpoint_of}
use Rattle.registry.specs.RegistryIndex.{Forgets, aliases_of}
use Rattle.registry.specs.NumberedEndpoints.{by_id, endpoints_of}
use Rattle.registry.proofs.IndexChanges.{indexed-remove}
use Rattle.registry.proofs.LookUpLemmas.{Keyed-by_id, entry_found}
use Rattle.registry.proofs.SeenLemmas.{endpoints_left, seen}
use Rattle.registry.proofs.registered.Endpoints.remove.Goals as goal

pub invariant_of-self : goal.invariant_of-self
invariant_of-self c =
    let alias_numbers = c.self.inside.alias_numbers.entries in
    let rest = c.forget_aliases_of.new.alias_numbers.entries in
    let changed = c.remove-removed.ensures.changed in (
      indexed-remove c.self.inside.by_number c.remove-removed.new.by_number.entries alias_numbers
          rest
          c.args.id.now changed.0 c.remove-removed.result c.self.invariant.0 changed.1
          (subst (λ found. Forgets alias_numbers rest (aliases_of found))
          (c.as_ref.ensures.value) c.forget_aliases_of.ensures.forgets)
          c.remove-removed.ensures.entries.unique,
      c.remove-removed.ensures.served,
    )

pub returns-clause-without : goal.returns-clause-without
returns-clause-without c =
    endpoints_left c.self.inside.by_number.entries c.remove-removed.new.by_number.entries
    c.args.id.now
    c.remove-removed.ensures.entries c.self.invariant.0.distinct
    ∙ ap (λ l. without_endpoint (endpoints_of l) c.args.id.now) c.self.view_is

pub returns-clause-removed : goal.returns-clause-removed
returns-clause-removed c =
    let id = c.args.id.now in
    c.remove-removed.ensures.removed
    ∙ entry_found id (by_id c.self.inside.by_number.entries)
    (Keyed-by_id c.self.inside.by_number.entries)
    ∙ ap (λ endpoints. endpoint_of endpoints id)
    (seen c.self.inside.by_number c.args.self.now c.self.view_is)
