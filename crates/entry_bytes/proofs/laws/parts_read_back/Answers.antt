use Rattle.entry_bytes.proofs.PartLaws as laws
use Rattle.entry_bytes.proofs.laws.parts_read_back.Goals as goal

pub returns-clause-codes : goal.returns-clause-codes
returns-clause-codes c = record {
  endpoints = laws.endpoint_kinds;
  destinations = laws.destination_kinds;
  limits = laws.limit_kinds;
  routes = laws.route_refusals;
  registrations = laws.register_refusals;
  unregistrations = laws.unregister_refusals;
  releases = laws.release_refusals;
}

pub returns-clause-overs : goal.returns-clause-overs
returns-clause-overs c = laws.over_back

pub returns-clause-changes : goal.returns-clause-changes
returns-clause-changes c = laws.change_refusal_back

pub returns-clause-endpoints : goal.returns-clause-endpoints
returns-clause-endpoints c = laws.endpoint_bytes_back
