use Rattle.std.proofs.Common.{subst}
use Rattle.std.specs.Prelude.{bytes_eq}
use Rattle.std.specs.List.{IsDistinct}
use Rattle.std.specs.Map.{keys_of}
use Rattle.registry.specs.NumberedEndpoints.{by_id}
use Rattle.registry.proofs.NumberLemmas.{distinct_ids}
use Rattle.registry.proofs.numbered_endpoints.NumberedEndpoints.len.Goals as goal

pub returns-clause-distinct : goal.returns-clause-distinct
returns-clause-distinct c =
    subst (λ r. IsDistinct bytes_eq (keys_of (by_id r.entries))) c.self.view_is
    (distinct_ids c.self.inside.endpoints.entries c.self.inside.numbers.entries c.self.inside.next
    c.self.invariant)
