use Rattle.std.proofs.Common.{ap, subst, sym, ◌∙◌}
use Rattle.registry.specs.Endpoint.{EndpointParts}
use Rattle.registry.specs.Registration.{alias_is_taken, with_endpoint}
use Rattle.registry.specs.RegistryIndex.{Forgets, LeadTo, IsIndexed, aliases_of}
use Rattle.registry.specs.NumberedEndpoints.{endpoints_of}
use Rattle.registry.proofs.IndexChanges.{indexed-insert, indexed-reordered}
use Rattle.registry.proofs.SeenLemmas.{endpoints_put}
use Rattle.registry.proofs.registered.Endpoints.put_numbered.Goals as goal

pub invariant_of-self-in_err-held : goal.invariant_of-self-in_err-held
invariant_of-self-in_err-held c = (
  indexed-reordered c.self.inside.by_number.entries c.reserve.new.self.entries
      c.self.inside.alias_numbers.entries c.self.invariant.0 c.reserve.ensures.entries.2,
  c.self.invariant.1,
)

pub invariant_of-self-in_err-number : goal.invariant_of-self-in_err-number
invariant_of-self-in_err-number c = (
  subst (λ r. IsIndexed r.entries c.reserve.new.self.entries) (sym c.in_err-number.ensures.err)
      (indexed-reordered c.self.inside.by_number.entries c.reserve.new.self.entries
      c.self.inside.alias_numbers.entries c.self.invariant.0 c.reserve.ensures.entries.2),
  c.insert.ensures.served,
)

pub invariant_of-self-2 : goal.invariant_of-self-2
invariant_of-self-2 c =
    let e = c.in_ok-held.held in
    let old = c.self.inside.by_number in
    let new = c.insert.new.by_number.entries in
    let alias_numbers = c.reserve.new.self.entries in
    let rest = c.forget_aliases_of.new.alias_numbers.entries in
    let all = c.lead.new.alias_numbers.entries in
    let number = c.in_ok-number.number in (
      indexed-insert old new alias_numbers rest all e number c.in_ok-number.replaced
          (indexed-reordered old.entries alias_numbers c.self.inside.alias_numbers.entries
          c.self.invariant.0
          c.reserve.ensures.entries.2)
          c.in_ok-number.ensures.changed
          (ap (alias_is_taken (endpoints_of old)) c.in_ok-held.ensures
          ∙ ap (λ r. alias_is_taken (endpoints_of r) c.args.endpoint.now) c.self.view_is
          ∙ c.requires.free)
          (subst (λ found. Forgets alias_numbers rest (aliases_of found))
          (c.as_ref.ensures.value) c.forget_aliases_of.ensures.forgets)
          (subst (λ aliases. LeadTo rest all aliases number)
          (c.aliases-aliases.ensures.value ∙ sym (ap (λ e. e.aliases) c.in_ok-held.ensures))
          c.lead.ensures)
          c.in_ok-number.ensures.ok.unique,
      c.insert.ensures.served,
    )

pub returns-clause-ok : goal.returns-clause-ok
returns-clause-ok c =
    let e : EndpointParts = record c.args.endpoint.now { zone = c.args.zone.now } in
    endpoints_put c.self.inside.by_number.entries c.insert.new.by_number.entries c.in_ok-held.held
    c.in_ok-number.ensures.ok
    ∙ ap (with_endpoint (endpoints_of c.self.inside.by_number)) c.in_ok-held.ensures
    ∙ ap (λ r. with_endpoint (endpoints_of r) e) c.self.view_is
