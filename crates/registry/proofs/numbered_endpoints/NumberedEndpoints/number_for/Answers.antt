use Rattle.std.proofs.Common.{◌≡◌, ap, sym, subst, ◌∙◌, arith}
use Rattle.registry.specs.NumberedEndpoints.{at_number, by_id, kept_endpoint_of}
use Rattle.registry.proofs.NumberLemmas.{number_within, kept_under, kept_nowhere}
use Rattle.registry.proofs.NumberLemmas.{next_is_free}
use Rattle.registry.proofs.numbered_endpoints.NumberedEndpoints.number_for.Goals as goal

pub returns-in-Some-clause-within : goal.returns-in-Some-clause-within
returns-in-Some-clause-within c =
    let low = number_within c.self.inside.endpoints.entries c.self.inside.numbers.entries
    c.self.inside.next c.self.invariant c.args.id.now c.in-Some.number.now
    (sym c.in-Some.ensures.value) in
    let same = ap (λ r. r.next) c.self.view_is in
    omega (arith, low, same)

pub returns-in-Some-clause-kept : goal.returns-in-Some-clause-kept
returns-in-Some-clause-kept c =
    let id = c.args.id.now in
    subst (λ r. kept_endpoint_of (by_id r.entries) id ≡ at_number r.entries c.in-Some.number.now)
    c.self.view_is
    (kept_under c.self.inside.endpoints.entries c.self.inside.numbers.entries
    c.self.inside.next c.self.invariant id c.in-Some.number.now (sym c.in-Some.ensures.value))

pub returns-in-None-clause-kept : goal.returns-in-None-clause-kept
returns-in-None-clause-kept c =
    let id = c.args.id.now in
    subst (λ r. kept_endpoint_of (by_id r.entries) id ≡ at_number r.entries c.self.inside.next)
    c.self.view_is
    (kept_nowhere c.self.inside.endpoints.entries c.self.inside.numbers.entries
    c.self.inside.next c.self.invariant id (sym c.in-None.ensures.value)
    ∙ sym (next_is_free c.self.inside.endpoints.entries c.self.inside.numbers.entries
    c.self.inside.next c.self.invariant))
