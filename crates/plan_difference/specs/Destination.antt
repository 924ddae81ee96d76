-- Where a target leads, in words that two configurations have in common.
use Rattle.std.specs.Prelude.{true, false, Option, Some, None}
use Rattle.compiler.specs.Plan.{Target, RemoteZone, LocalZone, CallersZone, UnknownPrefix}
use Rattle.compiler.specs.Rows.{ZoneRow}
use Rattle.plan_difference.specs.declared.destinations.Destination.{Destination}

-- a target without its gateways
abbrev pub destination_of : Target → Destination
destination_of (RemoteZone zone address) = record {
  zone = Some zone;
  address = Some address;
  technology = None;
  refused = false;
}
destination_of (LocalZone zone technology row) = record {
  zone = Some zone;
  address = None;
  technology = technology;
  refused = false;
}
destination_of (CallersZone technology) = record {
  zone = None;
  address = None;
  technology = technology;
  refused = false;
}
destination_of UnknownPrefix = record {
  zone = None;
  address = None;
  technology = None;
  refused = true;
}

-- the row whose gateways a target asks
abbrev pub row_of_target : Target → Option ZoneRow
row_of_target (RemoteZone zone address) = None
row_of_target (LocalZone zone technology row) = row
row_of_target (CallersZone technology) = None
row_of_target UnknownPrefix = None
