-- A registration whose local zone was looked up: the name of the zone that it means, or none if
-- that is not a local zone.
use Rattle.std.specs.Prelude.{ℕ, List, Option, Some, None, Result, Ok, Err, if◌then◌else◌}
use Rattle.registry.specs.declared.faults.Duplicate.TheVariants.{Id, E164}
use Rattle.registry.specs.declared.faults.PlacementFault.{PlacementFault}
use Rattle.registry.specs.declared.faults.PlacementFault.TheVariants.{UnknownZone, DuplicateAlias}
use Rattle.registry.specs.Endpoint.{EndpointParts}
use Rattle.registry.specs.Registration.{id_is_taken, alias_is_taken}

-- that zone, if the endpoint may register in it, room aside, or the fault
abbrev pub placement_among : List EndpointParts → EndpointParts → Option (List ℕ)
    → Result (List ℕ) PlacementFault
placement_among endpoints e None = Err UnknownZone
placement_among endpoints e (Some zone) =
    if id_is_taken endpoints e then Err (DuplicateAlias Id)
    else (if alias_is_taken endpoints e then Err (DuplicateAlias E164) else Ok zone)
