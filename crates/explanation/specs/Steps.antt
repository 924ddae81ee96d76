-- The steps of a routing: what each of them finds, by the definitions of an admission.
use Rattle.std.specs.Prelude.{◌≡◌, ℕ, zero, suc, ◌==◌, Bool, true, false, ◌&&◌, List, [], ◌∷◌, ◌++◌, length, drop, filter, flat_map, Option, Some, None, option_map, if◌then◌else◌}
use Rattle.std.specs.List.{filter_map}
use Rattle.gk_commands.specs.declared.commands.Command.{Command}
use Rattle.gk_commands.specs.Zones.{is_local}
use Rattle.compiler.specs.Rows.{ZoneRow, row_for}
use Rattle.compiler.specs.Pick.{picked}
use Rattle.compiler.specs.Priority.{priority_of}
use Rattle.compiler.specs.Technology.{technology_among, hopoffs_of, default_technology_of}
use Rattle.compiler.specs.Plan.{Target, RemoteZone, LocalZone, CallersZone, UnknownPrefix}
use Rattle.registry.specs.Endpoint.{EndpointParts, has_technology}
use Rattle.registry.specs.Gateway.{is_gateway, serves}
use Rattle.registry.specs.Learned.{learned_prefixes}
use Rattle.registry.specs.Registration.{RegistryParts, by_alias}
use Rattle.bandwidth.specs.Fits.{Try, tries_of}
use Rattle.rulings.specs.Routing.{target_for, route_of}
use Rattle.explanation.specs.declared.steps.Candidate.{Candidate}
use Rattle.explanation.specs.declared.steps.Explanation.{Explanation}
use Rattle.explanation.specs.declared.steps.HeldLimit.{HeldLimit}
use Rattle.explanation.specs.declared.steps.Reached.{Reached}
use Rattle.explanation.specs.declared.steps.Reached.TheVariants as reached
use Rattle.explanation.specs.declared.steps.Search.{Search}
use Rattle.explanation.specs.declared.steps.Search.TheVariants as search
use Rattle.explanation.specs.declared.steps.Way.{Way}
use Rattle.explanation.specs.declared.steps.Way.TheVariants as ways

-- ---- the technology prefix
-- whether an endpoint is a gateway of a local zone that registered with a prefix
abbrev pub gives : List Command → List ℕ → EndpointParts → Bool
gives commands prefix e =
    is_gateway e.kind && is_local commands e.zone && has_technology e prefix

-- the ID of an endpoint from which the prefix is learned
abbrev pub giver_in : List Command → List ℕ → EndpointParts → List (List ℕ)
giver_in commands prefix e = if gives commands prefix e then e.id ∷ [] else []

-- all of these, in order of registration; none if there is no prefix
abbrev pub givers_of : List Command → List EndpointParts → Option (List ℕ) → List (List ℕ)
givers_of commands endpoints None = []
givers_of commands endpoints (Some prefix) = flat_map (giver_in commands prefix) endpoints

-- ---- the zone
-- what decides the zone by the row that was found
abbrev pub way_by_row : Option ZoneRow → Way
way_by_row None = ways.Unmatched
way_by_row (Some row) = ways.Matched row.0

-- by the hop-off zones, if there are some; else by the digits after the prefix
abbrev pub way_by_hopoff : List Command → List ℕ → Option (List ℕ) → Way
way_by_hopoff commands rest None = way_by_row (row_for commands rest)
way_by_hopoff commands rest (Some zone) = ways.HopOff

-- by the technology prefix of the digits
abbrev pub way_of : List Command → List ℕ → Option (List ℕ) → Way
way_of commands digits None = way_by_row (row_for commands digits)
way_of commands digits (Some prefix) =
    way_by_hopoff commands (drop (length prefix) digits)
    (picked commands (hopoffs_of commands prefix))

-- the zone to which a target leads a caller of this zone
abbrev pub reached_by : List ℕ → Target → Reached
reached_by caller (RemoteZone zone address) = reached.Remote zone
reached_by caller (LocalZone zone technology row) = reached.Local zone
reached_by caller (CallersZone technology) = reached.Local caller
reached_by caller UnknownPrefix = reached.Nowhere

-- ---- the endpoint
-- if no endpoint has the digits as an alias
abbrev pub search_by_default : Option (List ℕ) → Search
search_by_default None = search.NoDefault
search_by_default (Some prefix) = search.Default prefix

abbrev pub search_by_alias : List Command → Option EndpointParts → Search
search_by_alias commands None = search_by_default (default_technology_of commands)
search_by_alias commands (Some e) = search.Alias e.id

-- in a local zone, by the technology prefix of the digits
abbrev pub search_in : List Command → List EndpointParts → List ℕ → List ℕ → Option (List ℕ)
    → Search
search_in commands endpoints digits zone None =
    search_by_alias commands (by_alias endpoints zone digits)
search_in commands endpoints digits zone (Some prefix) = search.Technology prefix

-- in the zone to which a target leads
abbrev pub search_by : List Command → List EndpointParts → List ℕ → List ℕ → Target → Search
search_by commands endpoints caller digits (RemoteZone zone address) = search.Nobody
search_by commands endpoints caller digits (LocalZone zone technology row) =
    search_in commands endpoints digits zone technology
search_by commands endpoints caller digits (CallersZone technology) =
    search_in commands endpoints digits caller technology
search_by commands endpoints caller digits UnknownPrefix = search.Nobody

-- the technology prefix with which gateways are looked for
abbrev pub sought : Search → Option (List ℕ)
sought search.Nobody = None
sought (search.Technology prefix) = Some prefix
sought (search.Alias id) = None
sought (search.Default prefix) = Some prefix
sought search.NoDefault = None

-- ---- the gateways
-- a gateway that serves the zone with the prefix, with its priority for a row
abbrev pub candidate_in : List Command → List ℕ → List ℕ → Option ZoneRow → EndpointParts
    → List Candidate
candidate_in commands zone prefix row e =
    if serves zone prefix e
    then record { id = e.id; priority = priority_of commands row e.id } ∷ []
    else []

-- all of these, in order of registration
abbrev pub candidates_of : List Command → List EndpointParts → List ℕ → List ℕ → Option ZoneRow
    → List Candidate
candidates_of commands endpoints zone prefix row =
    flat_map (candidate_in commands zone prefix row) endpoints

-- those of one priority
abbrev pub of_priority : List Candidate → ℕ → List Candidate
of_priority candidates priority = filter (λ c. c.priority == priority) candidates

-- those of lesser priorities than this, the greatest first, and of equal priority the one that
-- registered first
abbrev pub ranked_below : ℕ → List Candidate → List Candidate
ranked_below zero candidates = []
ranked_below (suc priority) candidates =
    of_priority candidates priority ++ ranked_below priority candidates

-- all of them: no priority is above 10
abbrev pub ranked : List Candidate → List Candidate
ranked candidates = ranked_below 11 candidates

-- among which one is chosen in a zone; none if no prefix is looked for
abbrev pub gateways_in : List Command → List EndpointParts → List ℕ → Option ZoneRow
    → Option (List ℕ) → List Candidate
gateways_in commands endpoints zone row None = []
gateways_in commands endpoints zone row (Some prefix) =
    ranked (candidates_of commands endpoints zone prefix row)

-- among which one is chosen in the zone to which a target leads
abbrev pub gateways_by : List Command → List EndpointParts → List ℕ → Option (List ℕ) → Target
    → List Candidate
gateways_by commands endpoints caller prefix (RemoteZone zone address) = []
gateways_by commands endpoints caller prefix (LocalZone zone technology row) =
    gateways_in commands endpoints zone row prefix
gateways_by commands endpoints caller prefix (CallersZone technology) =
    gateways_in commands endpoints caller None prefix
gateways_by commands endpoints caller prefix UnknownPrefix = []

-- ---- the limits
-- the limit of a sum that is tried, if there is one
abbrev pub held_in : Try → Option HeldLimit
held_in t = option_map (λ limit. record { over = t.over; units = limit }) t.limit

-- those that a call between these zones is held against, in the order in which they are tried
abbrev pub held_between : List Command → List ℕ → List ℕ → Bool → List HeldLimit
held_between commands caller zone is_remote =
    filter_map held_in (tries_of commands [] (record {
      number = 0;
      units = 0;
      remote = is_remote;
      owner = [];
      source = Some caller;
      target = zone;
      answerer = None;
    }))

abbrev pub held_by : List Command → List ℕ → Reached → List HeldLimit
held_by commands caller reached.Nowhere = []
held_by commands caller (reached.Remote zone) = held_between commands caller zone true
held_by commands caller (reached.Local zone) = held_between commands caller zone false

-- ---- the whole
-- the endpoints, if they are known
abbrev pub endpoints_known : Option RegistryParts → List EndpointParts
endpoints_known None = []
endpoints_known (Some r) = r.endpoints

-- each step is what an admission of a caller of this zone rests on
pub record Explains (commands : List Command) (endpoints : List EndpointParts) (known : Bool)
    (caller digits : List ℕ) (e : Explanation) : Type 0 where
  pub known_is : e.known ≡ known
  pub caller_is : e.caller ≡ caller
  pub digits_are : e.digits ≡ digits
  pub technology_is : e.technology
      ≡ technology_among (learned_prefixes commands endpoints) commands digits
  pub givers_are : e.givers.items ≡ givers_of commands endpoints e.technology
  pub way_is : e.way ≡ way_of commands digits e.technology
  pub reached_is : e.reached ≡ reached_by caller (target_for commands endpoints digits)
  pub search_is : e.search
      ≡ search_by commands endpoints caller digits (target_for commands endpoints digits)
  pub gateways_are : e.gateways.items
      ≡ gateways_by commands endpoints caller (sought e.search)
      (target_for commands endpoints digits)
  pub route_is : e.route ≡ route_of commands endpoints caller digits
  pub limits_are : e.limits.items ≡ held_by commands caller e.reached
