-- The steps of an explanation lead to its route.
use Rattle.std.proofs.Common.{◌≡◌, ◌&&◌, ℕ, zero, suc, Bool, true, nat_lt, List, [], ◌∷◌, refl, sym, ap, ◌∙◌, arith}
use Rattle.std.proofs.Math.Path.{subst⁻¹}
use Rattle.std.specs.Prelude.{◌==◌, Option, Some, None, bytes_eq}
use Rattle.std.specs.List.{list_all, position_or_len}
use Rattle.std.proofs.lemmas.Bool.{and_parts, both_ways}
use Rattle.std.proofs.lemmas.Bool.Decides.{nat_tests}
use Rattle.std.proofs.lemmas.List.Folds.{find_at}
use Rattle.gk_commands.specs.declared.commands.Command.{Command}
use Rattle.gk_commands.specs.Accepted.{IsAccepted}
use Rattle.compiler.specs.Plan.{Target, RemoteZone, LocalZone, CallersZone, UnknownPrefix}
use Rattle.compiler.specs.Priority.{priority_of}
use Rattle.compiler.specs.Rows.{ZoneRow}
use Rattle.compiler.specs.Technology.{default_technology_of}
use Rattle.registry.specs.Endpoint.{EndpointParts, has_alias}
use Rattle.registry.specs.Gateway.{gateway_of, serves}
use Rattle.registry.specs.Registration.{by_alias}
use Rattle.registry.proofs.GatewayLaws.{chosen_from_computed}
use Rattle.rulings.specs.declared.routes.Route.{Route}
use Rattle.rulings.specs.declared.routes.Route.TheVariants.{Refused}
use Rattle.rulings.specs.declared.routes.RouteRefusal.TheVariants as refusals
use Rattle.rulings.specs.Routing.{by_alias_or_default, by_default, in_local_zone, route_of, route_of_target, target_for, to_gateway}
use Rattle.explanation.specs.declared.steps.Candidate.{Candidate}
use Rattle.explanation.specs.declared.steps.Reached.{Reached}
use Rattle.explanation.specs.declared.steps.Reached.TheVariants as reached
use Rattle.explanation.specs.declared.steps.Search.{Search}
use Rattle.explanation.specs.Laws.{IsByPriority, IsBySteps, IsToEndpoint, IsToFirst, StandsFirst, StepsLeadToRoute}
use Rattle.explanation.specs.Steps.{candidates_of, gateways_by, gateways_in, ranked, reached_by, search_by, search_by_alias, search_by_default, search_in, sought}
use Rattle.explanation.proofs.FirstLemmas.{chosen_first}

-- none has a priority above 0
to_none : (endpoints : List EndpointParts) (list : List Candidate)
    → list_all (λ c. c.priority == 0) list ≡ true
    → IsToFirst endpoints list (Refused refusals.NoGateway)
to_none endpoints [] h = refl
to_none endpoints (c ∷ rest) h =
    by c.priority (and_parts (c.priority == 0) (list_all (λ d. d.priority == 0) rest) h).0
  where
    by : (p : ℕ) → (p == 0) ≡ true → IsByPriority endpoints p c.id (Refused refusals.NoGateway)
    by zero is = refl
    by (suc p) is = let bad : ⊥ = grind (arith, nat_tests) in absurd bad

-- the first has one
to_some : (endpoints : List EndpointParts) (p : ℕ) (id : List ℕ) (route : Route)
    → nat_lt 0 p ≡ true → IsToEndpoint endpoints id route → IsByPriority endpoints p id route
to_some endpoints zero id route more is = absurd (both_ways (nat_lt 0 0) refl more)
to_some endpoints (suc p) id route more is = is

module _ (commands : List Command) (endpoints : List EndpointParts) (accepted : IsAccepted commands)
  where
    to_first : (zone prefix : List ℕ) (row : Option ZoneRow)
        → IsToFirst endpoints (ranked (candidates_of commands endpoints zone prefix row))
        (to_gateway (gateway_of commands endpoints zone prefix row))
    to_first zone prefix row =
        by (gateway_of commands endpoints zone prefix row) refl
        (chosen_first commands endpoints zone prefix row accepted)
      where
        list : List Candidate
        list = ranked (candidates_of commands endpoints zone prefix row)

        by : (o : Option EndpointParts) → gateway_of commands endpoints zone prefix row ≡ o
            → StandsFirst commands row o list → IsToFirst endpoints list (to_gateway o)
        by None is none = to_none endpoints list none
        by (Some e) is first =
            let c = chosen_from_computed (priority_of commands row) endpoints zone prefix e is in
            let p = priority_of commands row e.id in
            let more = (and_parts (serves zone prefix e) (nat_lt 0 p) c.candidate).1 in
            subst⁻¹ (λ l. IsToFirst endpoints l (to_gateway (Some e))) first.1
            (to_some endpoints p e.id (to_gateway (Some e)) more
            (c.place, e, c.listed, refl, refl))

    module _ (caller digits : List ℕ) where
      -- in a local zone, by the default technology
      by_default_too : (zone : List ℕ) (row : Option ZoneRow) (default : Option (List ℕ))
          → IsBySteps endpoints (reached.Local zone) (search_by_default default)
          (gateways_in commands endpoints zone row (sought (search_by_default default)))
          (by_default commands endpoints zone row default)
      by_default_too zone row None = refl
      by_default_too zone row (Some prefix) = to_first zone prefix row

      by_alias_too : (zone : List ℕ) (row : Option ZoneRow) (o : Option EndpointParts)
          → by_alias endpoints zone digits ≡ o
          → IsBySteps endpoints (reached.Local zone) (search_by_alias commands o)
          (gateways_in commands endpoints zone row (sought (search_by_alias commands o)))
          (by_alias_or_default commands endpoints zone row o)
      by_alias_too zone row None is = by_default_too zone row (default_technology_of commands)
      by_alias_too zone row (Some e) is =
          let test : EndpointParts → Bool = λ f. bytes_eq f.zone zone && has_alias f digits in
          (position_or_len test endpoints, e, sym (find_at test endpoints) ∙ is, refl, refl)

      in_zone : (zone : List ℕ) (row : Option ZoneRow) (technology : Option (List ℕ))
          → IsBySteps endpoints (reached.Local zone)
          (search_in commands endpoints digits zone technology)
          (gateways_in commands endpoints zone row
          (sought (search_in commands endpoints digits zone technology)))
          (in_local_zone commands endpoints zone row digits technology)
      in_zone zone row None = by_alias_too zone row (by_alias endpoints zone digits) refl
      in_zone zone row (Some prefix) = to_first zone prefix row

      by_target : (target : Target)
          → IsBySteps endpoints (reached_by caller target)
          (search_by commands endpoints caller digits target)
          (gateways_by commands endpoints caller
          (sought (search_by commands endpoints caller digits target)) target)
          (route_of_target commands endpoints caller digits target)
      by_target (RemoteZone zone address) = (address, refl)
      by_target (LocalZone zone technology row) = in_zone zone row technology
      by_target (CallersZone technology) = in_zone caller None technology
      by_target UnknownPrefix = refl

-- the same of steps that are equal
moved : (endpoints : List EndpointParts) (zone zone' : Reached) (s s' : Search)
    (gateways gateways' : List Candidate) (route route' : Route)
    → zone ≡ zone' → s ≡ s' → gateways ≡ gateways' → route ≡ route'
    → IsBySteps endpoints zone' s' gateways' route' → IsBySteps endpoints zone s gateways route
moved endpoints zone zone' s s' gateways gateways' route route' zones searches lists routes is =
    subst⁻¹ (λ z. IsBySteps endpoints z s gateways route) zones
    (subst⁻¹ (λ t. IsBySteps endpoints zone' t gateways route) searches
    (subst⁻¹ (λ l. IsBySteps endpoints zone' s' l route) lists
    (subst⁻¹ (IsBySteps endpoints zone' s' gateways') routes is)))

pub lead_to_route : StepsLeadToRoute
unfolding route_of
lead_to_route commands endpoints known caller digits e accepted is =
    let target = target_for commands endpoints digits in
    moved endpoints e.reached (reached_by caller target) e.search
    (search_by commands endpoints caller digits target) e.gateways.items
    (gateways_by commands endpoints caller
    (sought (search_by commands endpoints caller digits target)) target) e.route
    (route_of_target commands endpoints caller digits target) is.reached_is is.search_is
    (is.gateways_are ∙ ap (λ s. gateways_by commands endpoints caller (sought s) target)
    is.search_is) is.route_is (by_target commands endpoints accepted caller digits target)
