-- The gateway that stands first is the one that is chosen, and the steps lead to the route.
use Rattle.std.specs.Prelude.{◌≡◌, ◌==◌, ℕ, zero, suc, Bool, true, List, [], ◌∷◌, slice_get, Option, Some, None}
use Rattle.std.specs.List.{list_all}
use Rattle.gk_terms.specs.Address.{AddressParts}
use Rattle.gk_commands.specs.declared.commands.Command.{Command}
use Rattle.gk_commands.specs.Accepted.{IsAccepted}
use Rattle.compiler.specs.Priority.{priority_of}
use Rattle.compiler.specs.Rows.{ZoneRow}
use Rattle.registry.specs.Endpoint.{EndpointParts}
use Rattle.registry.specs.Gateway.{gateway_of}
use Rattle.rulings.specs.declared.routes.Destination.TheVariants as destinations
use Rattle.rulings.specs.declared.routes.Route.{Route}
use Rattle.rulings.specs.declared.routes.Route.TheVariants.{To, Refused}
use Rattle.rulings.specs.declared.routes.RouteRefusal.TheVariants as refusals
use Rattle.rulings.specs.Routing.{destination_of}
use Rattle.explanation.specs.declared.steps.Candidate.{Candidate}
use Rattle.explanation.specs.declared.steps.Explanation.{Explanation}
use Rattle.explanation.specs.declared.steps.Reached.{Reached}
use Rattle.explanation.specs.declared.steps.Reached.TheVariants as reached
use Rattle.explanation.specs.declared.steps.Search.{Search}
use Rattle.explanation.specs.declared.steps.Search.TheVariants as search
use Rattle.explanation.specs.Steps.{candidates_of, ranked, Explains}

-- ---- the gateways
-- the gateway that is chosen stands first; and if none is, each one has priority 0
abbrev pub StandsFirst : List Command → Option ZoneRow → Option EndpointParts → List Candidate
    → Type 0
StandsFirst commands row None list = list_all (λ c. c.priority == 0) list ≡ true
StandsFirst commands row (Some e) list =
    (rest : List Candidate)
    × (list ≡ record { id = e.id; priority = priority_of commands row e.id } ∷ rest)

-- it is so of the gateway that an admission chooses. Accepted commands give no priority above 10
abbrev pub ChosenStandsFirst : Type 0
ChosenStandsFirst =
    (commands : List Command) (endpoints : List EndpointParts) (zone prefix : List ℕ)
    (row : Option ZoneRow)
    → IsAccepted commands
    → StandsFirst commands row (gateway_of commands endpoints zone prefix row)
    (ranked (candidates_of commands endpoints zone prefix row))

-- ---- the route
-- to a registered endpoint of this ID
abbrev pub IsToEndpoint : List EndpointParts → List ℕ → Route → Type 0
IsToEndpoint endpoints id route =
    (place : ℕ) × (e : EndpointParts) × (slice_get endpoints place ≡ Some e) × (e.id ≡ id)
    × (route ≡ To (destination_of e.kind e))

-- to a gateway of this priority and ID; none of priority 0 is chosen
abbrev pub IsByPriority : List EndpointParts → ℕ → List ℕ → Route → Type 0
IsByPriority endpoints zero id route = route ≡ Refused refusals.NoGateway
IsByPriority endpoints (suc priority) id route = IsToEndpoint endpoints id route

-- to the first of these gateways
abbrev pub IsToFirst : List EndpointParts → List Candidate → Route → Type 0
IsToFirst endpoints [] route = route ≡ Refused refusals.NoGateway
IsToFirst endpoints (c ∷ rest) route = IsByPriority endpoints c.priority c.id route

-- to another gatekeeper, or nowhere
abbrev pub IsOut : Reached → Route → Type 0
IsOut reached.Nowhere route = route ≡ Refused refusals.UnknownPrefix
IsOut (reached.Remote zone) route =
    (address : AddressParts) × (route ≡ To (destinations.Zone zone address))
IsOut (reached.Local zone) route = ⊥

-- to where these steps lead
abbrev pub IsBySteps : List EndpointParts → Reached → Search → List Candidate → Route → Type 0
IsBySteps endpoints zone search.Nobody gateways route = IsOut zone route
IsBySteps endpoints zone (search.Technology prefix) gateways route =
    IsToFirst endpoints gateways route
IsBySteps endpoints zone (search.Alias id) gateways route = IsToEndpoint endpoints id route
IsBySteps endpoints zone (search.Default prefix) gateways route =
    IsToFirst endpoints gateways route
IsBySteps endpoints zone search.NoDefault gateways route = route ≡ Refused refusals.NoDefault

-- the route of an explanation is by its steps
abbrev pub StepsLeadToRoute : Type 0
StepsLeadToRoute =
    (commands : List Command) (endpoints : List EndpointParts) (known : Bool)
    (caller digits : List ℕ) (e : Explanation)
    → IsAccepted commands
    → Explains commands endpoints known caller digits e
    → IsBySteps endpoints e.reached e.search e.gateways.items e.route
