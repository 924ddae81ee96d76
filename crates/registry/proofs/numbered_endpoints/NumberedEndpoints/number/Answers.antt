use Rattle.std.proofs.Common.{◌≡◌, None, sym, subst, ◌∙◌}
use Rattle.std.specs.Prelude.{MatchOption}
use Rattle.registry.specs.NumberedEndpoints.{IsNumberFor, at_number, by_id, kept_endpoint_of}
use Rattle.registry.proofs.NumberLemmas.{known_or_not}
use Rattle.registry.proofs.numbered_endpoints.NumberedEndpoints.number.Goals as goal

pub returns : goal.returns
returns c =
    let id = c.args.id.now in
    subst (λ r. MatchOption c.copied.result (kept_endpoint_of (by_id r.entries) id ≡ None)
    (λ number. (IsNumberFor r id number)
    × (kept_endpoint_of (by_id r.entries) id ≡ at_number r.entries number))) c.self.view_is
    (known_or_not c.self.inside.endpoints.entries c.self.inside.numbers.entries c.self.inside.next
    c.self.invariant id c.copied.result (sym (c.copied.ensures ∙ c.get.ensures.value)))
