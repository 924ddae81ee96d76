use Rattle.std.proofs.Common.{◌<◌, ◌^◌, slice_get, ap, sym, subst, arith}
use Rattle.registry.specs.NumberedEndpoints.{IsNextFrom}
use Rattle.registry.proofs.KeepingLemmas.{is_next}
use Rattle.registry.proofs.numbered_endpoints.NumberedEndpoints.next_from.Goals as goal

pub returns-clause-next : goal.returns-clause-next
returns-clause-next c =
    let number = c.in_ok-number.number.now in
    let endpoint = c.in_ok-number.held.now in
    let found = c.range.ensures.in_range tt in
    let fits : c.self.inside.next < 2 ^ 32 = omega arith in
    subst (IsNextFrom c.args.self.now c.args.from _) (sym c.endpoint.ensures)
    (subst (λ n. IsNextFrom c.args.self.now c.args.from n endpoint) (sym c.number.view_is)
    (subst (λ r. IsNextFrom r c.args.from number endpoint) c.self.view_is
    (is_next c.self.inside.endpoints.entries c.self.inside.numbers.entries c.self.inside.next
    c.self.invariant c.range.result c.args.from number endpoint
    (ap (λ xs. slice_get xs 0) c.in_ok-number.ensures.steps) found.1 found.2 fits)))
