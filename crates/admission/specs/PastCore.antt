-- A core as it was. A reader of the contracts need not know it.
use Rattle.std.specs.Prelude.{◌≡◌, ◌≤◌, List, [], length}
use Rattle.call_rows.specs.Pushing.{most_open, most_rows}
use Rattle.registry.specs.Endpoint.{EndpointParts}
use Rattle.rulings.specs.State.{State}
use Rattle.entry_bytes.specs.Entry.{PlainEntry}
use Rattle.decision_record.specs.History.{CoreParts, IsLegal, state_of}

-- no call is open at the opening, and the limits are those of a snapshot, or less
pub record IsBounded (opening : State) (entries : List PlainEntry) : Type 0 where
  pub none_open : opening.calls ≡ []
  pub few_calls : opening.limits.calls ≤ most_open
  pub few : length entries ≤ most_rows

-- these entries, which are a legal history, and these endpoints are the core's
pub record IsTakenOf (core : CoreParts) (entries : List PlainEntry) (endpoints : List EndpointParts)
    : Type 0 where
  pub same : entries ≡ core.entries
  pub endpoints_are : endpoints ≡ (state_of core).endpoints
  pub legal : IsLegal core.opening core.entries
  pub bounded : IsBounded core.opening core.entries
