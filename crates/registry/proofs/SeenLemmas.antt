-- The list of endpoints after each change of the endpoints by number.
use Rattle.std.proofs.Common.{◌≡◌, ℕ, List, sym, ap, ◌∙◌}
use Rattle.std.specs.Prelude.{bytes_eq}
use Rattle.std.specs.List.{IsDistinct}
use Rattle.std.specs.Map.{keys_of, values_of}
use Rattle.registry.specs.Endpoint.{EndpointParts}
use Rattle.registry.specs.Registration.{with_endpoint, without_endpoint}
use Rattle.registry.specs.NumberedEndpoints.{Numbered, NumberedParts, by_id, endpoints_of, IsPut, IsTakenOut}
use Rattle.registry.proofs.LookUpLemmas.{values-by_id, Keyed-by_id}
use Rattle.registry.proofs.IndexChanges.{values-insert, values-remove}

-- the endpoints by ID are those that are seen
pub seen : (l r : NumberedParts) → l ≡ r → values_of (by_id l.entries) ≡ endpoints_of r
seen l r same = values-by_id l.entries ∙ ap endpoints_of same

-- after a registration
pub endpoints_put : (old new : Numbered) (e : EndpointParts) → IsPut (by_id old) (by_id new) e
    → values_of new ≡ with_endpoint (values_of old) e
endpoints_put old new e put =
    sym (values-by_id new) ∙ ap values_of put.entries
    ∙ values-insert e (by_id old) (Keyed-by_id old)
    ∙ ap (λ xs. with_endpoint xs e) (values-by_id old)

-- after an unregistration
pub endpoints_left : (old new : Numbered) (id : List ℕ) → IsTakenOut (by_id old) (by_id new) id
    → IsDistinct bytes_eq (keys_of (by_id old))
    → values_of new ≡ without_endpoint (values_of old) id
endpoints_left old new id out distinct =
    sym (values-by_id new) ∙ ap values_of out.entries
    ∙ values-remove id (by_id old) (Keyed-by_id old) distinct
    ∙ ap (λ xs. without_endpoint xs id) (values-by_id old)
