-- Where a call goes: the target of its digits, and then an endpoint of the target zone. This
-- project's profile, after Cisco's flow for an admission request.
use Rattle.std.specs.Prelude.{ℕ, List, Option, Some, None, option_map}
use Rattle.gk_commands.specs.declared.commands.Command.{Command}
use Rattle.compiler.specs.Rows.{ZoneRow}
use Rattle.compiler.specs.Technology.{default_technology_of}
use Rattle.compiler.specs.Plan.{Target, RemoteZone, LocalZone, CallersZone, UnknownPrefix, plan_with, zone_of_target}
use Rattle.compiler.specs.Zones.{zone_at}
use Rattle.registry.specs.declared.endpoints.EndpointKind.{EndpointKind}
use Rattle.registry.specs.declared.endpoints.EndpointKind.TheVariants.{Gateway, Terminal}
use Rattle.registry.specs.Endpoint.{EndpointParts}
use Rattle.registry.specs.Registration.{by_alias}
use Rattle.registry.specs.Gateway.{gateway_of}
use Rattle.registry.specs.Learned.{learned_prefixes}
use Rattle.rulings.specs.declared.routes.Destination.{Destination}
use Rattle.rulings.specs.declared.routes.Destination.TheVariants as destinations
use Rattle.rulings.specs.declared.routes.Route.{Route}
use Rattle.rulings.specs.declared.routes.Route.TheVariants.{To, Refused}
use Rattle.rulings.specs.declared.routes.RouteRefusal.TheVariants as refusals

-- an endpoint as the destination, by its registered kind
abbrev pub destination_of : EndpointKind → EndpointParts → Destination
destination_of Gateway e = destinations.Gateway e.id e.address
destination_of Terminal e = destinations.Terminal e.id e.address

-- the gateway that is chosen
abbrev pub to_gateway : Option EndpointParts → Route
to_gateway None = Refused refusals.NoGateway
to_gateway (Some e) = To (destination_of e.kind e)

-- a gateway of the zone for the default technology, if one is set
abbrev pub by_default : List Command → List EndpointParts → List ℕ → Option ZoneRow
    → Option (List ℕ) → Route
by_default commands endpoints zone row None = Refused refusals.NoDefault
by_default commands endpoints zone row (Some prefix) =
    to_gateway (gateway_of commands endpoints zone prefix row)

-- the endpoint of the zone that has the digits as an alias; without one, by the default technology
abbrev pub by_alias_or_default : List Command → List EndpointParts → List ℕ → Option ZoneRow
    → Option EndpointParts → Route
by_alias_or_default commands endpoints zone row None =
    by_default commands endpoints zone row (default_technology_of commands)
by_alias_or_default commands endpoints zone row (Some e) = To (destination_of e.kind e)

-- in a local zone: a gateway for the technology prefix that was found; without one, by alias
abbrev pub in_local_zone : List Command → List EndpointParts → List ℕ → Option ZoneRow → List ℕ
    → Option (List ℕ) → Route
in_local_zone commands endpoints zone row digits None =
    by_alias_or_default commands endpoints zone row (by_alias endpoints zone digits)
in_local_zone commands endpoints zone row digits (Some prefix) =
    to_gateway (gateway_of commands endpoints zone prefix row)

-- where a target leads a caller of this zone
abbrev pub route_of_target : List Command → List EndpointParts → List ℕ → List ℕ → Target → Route
route_of_target commands endpoints caller digits (RemoteZone zone address) =
    To (destinations.Zone zone address)
route_of_target commands endpoints caller digits (LocalZone zone technology row) =
    in_local_zone commands endpoints zone row digits technology
route_of_target commands endpoints caller digits (CallersZone technology) =
    in_local_zone commands endpoints caller None digits technology
route_of_target commands endpoints caller digits UnknownPrefix = Refused refusals.UnknownPrefix

-- the target of dialled digits, by the commands and by the technology prefixes that registered
-- gateways gave
abbrev pub target_for : List Command → List EndpointParts → List ℕ → Target
target_for commands endpoints digits =
    plan_with (learned_prefixes commands endpoints) commands digits

-- where a call of a caller of this zone goes
unfoldable pub route_of : List Command → List EndpointParts → List ℕ → List ℕ → Route
route_of commands endpoints caller digits =
    route_of_target commands endpoints caller digits (target_for commands endpoints digits)

-- the zone of a number, or the caller's own if there is no number; nothing if the number is out of
-- range
abbrev pub zone_named : List Command → List ℕ → Option ℕ → Option (List ℕ)
zone_named commands caller None = Some caller
zone_named commands caller (Some number) = option_map (λ zone. zone.0) (zone_at commands number)

-- the zone to which the digits lead a caller of this zone; the caller's own if they lead nowhere
abbrev pub target_zone_of : List Command → List EndpointParts → List ℕ → List ℕ → List ℕ
target_zone_of commands endpoints caller digits =
    zone_of_target caller (target_for commands endpoints digits)

-- ---- a target that needs no endpoint
-- the route to a remote zone
abbrev pub remote_route : Target → Option Route
remote_route (RemoteZone zone address) = Some (To (destinations.Zone zone address))
remote_route (LocalZone zone technology row) = None
remote_route (CallersZone technology) = None
remote_route UnknownPrefix = None
