-- How calls are routed, as an operator says it: a technology prefix, its hop-off zone, the longest
-- matching pattern or else the caller's own zone, and then an endpoint of that zone.
use Rattle.std.specs.Prelude.{◌≡◌, ◌≤◌, ◌↔◌, ℕ, true, false, IsTrue, List, [], ◌∷◌, ◌++◌, length, drop, Option, Some, None, Ok}
use Rattle.std.specs.List.{All, Contains}
use Rattle.gk_terms.specs.Address.{AddressParts}
use Rattle.digit_patterns.specs.Pattern.{Matches}
use Rattle.digit_patterns.specs.Table.{IsBest}
use Rattle.gk_commands.specs.declared.commands.Command.{Command}
use Rattle.gk_commands.specs.declared.zones.ZoneKind.TheVariants.{Local, Remote}
use Rattle.gk_commands.specs.Configuration.{Configuration}
use Rattle.gk_commands.specs.Zones.{zone_of}
use Rattle.gk_commands.specs.Reading.{reading_in}
use Rattle.compiler.specs.Pick.{IsPicked}
use Rattle.compiler.specs.Technology.{prefixes_of, begins_with, hopoffs_of, default_technology_of}
use Rattle.compiler.specs.Rows.{ZoneRow, rows_of, zones_for}
use Rattle.compiler.specs.Plan.{rejects_unknown}
use Rattle.registry.specs.Endpoint.{EndpointParts}
use Rattle.registry.specs.Registration.{endpoint_of, is_registered}
use Rattle.registry.specs.Learned.{learned_prefixes}
use Rattle.bandwidth.specs.Calls.{is_open}
use Rattle.registry.specs.Gateway.{IsChosen}
use Rattle.registry.specs.GatewayLaws.{HasNoCandidate}
use Rattle.rulings.specs.declared.routes.Destination.{Destination}
use Rattle.rulings.specs.declared.routes.Destination.TheVariants as destinations
use Rattle.rulings.specs.declared.routes.RouteRefusal.{RouteRefusal}
use Rattle.rulings.specs.declared.routes.RouteRefusal.TheVariants as refusals
use Rattle.rulings.specs.declared.replies.AdmitRefusal.TheVariants.{CallerNotRegistered, CallOpen, NoRoute}
use Rattle.rulings.specs.declared.replies.Reply.TheVariants.{Admitted, AdmitRefused}
use Rattle.rulings.specs.State.{State}
use Rattle.rulings.specs.Events.{Admitting}
use Rattle.rulings.specs.Routing.{destination_of}
use Rattle.rulings.specs.Ruling.{verdict_of}

-- x is the first of the list that has the property
pub record IsFirst {X : Type 0} (Has : X → Type 0) (xs : List X) (x : X) : Type 0 where
  pub before : List X
  pub after : List X
  pub stands : xs ≡ before ++ x ∷ after
  pub has : Has x
  pub none_before : All (λ y. ¬ Has y) before

-- ---- technology prefixes
-- the longest of the known technology prefixes with which the digits begin
pub record IsTechnology (known : List (List ℕ)) (digits prefix : List ℕ) : Type 0 where
  pub is_known : Contains known prefix
  pub begins : IsTrue (begins_with digits prefix)
  pub longest : All (λ other. IsTrue (begins_with digits other) → length other ≤ length prefix)
      known

-- the digits begin with no known technology prefix
abbrev pub NoTechnology : List (List ℕ) → List ℕ → Type 0
NoTechnology known digits = All (λ prefix. ¬ IsTrue (begins_with digits prefix)) known

-- the digits by which a pattern is looked for: all of them, or those after a technology prefix for
-- which the commands declare no hop-off zone, as one that was only learned
pub data IsLookedFor (known : List (List ℕ)) (commands : List Command) (digits : List ℕ)
    : Option (List ℕ) → List ℕ → Type 0 where
  All_of_them : NoTechnology known digits → IsLookedFor known commands digits None digits
  After_prefix : (prefix : List ℕ) → IsTechnology known digits prefix
      → hopoffs_of commands prefix ≡ []
      → IsLookedFor known commands digits (Some prefix) (drop (length prefix) digits)

-- ---- patterns
-- the longest pattern that matches the digits, with the zone picked from those it is declared for
pub record IsLongestRow (commands : List Command) (digits : List ℕ) (row : ZoneRow) : Type 0 where
  pub zone : List ℕ
  pub longest : IsBest (rows_of commands) digits (row.0, zone)
  pub picked : IsPicked commands (zones_for commands row.0) row.1

-- no pattern matches the digits
abbrev pub NoneMatches : List Command → List ℕ → Type 0
NoneMatches commands digits = All (λ (row : ZoneRow). ¬ Matches row.0 digits) (rows_of commands)

-- ---- the target zone
-- the commands send the digits to this zone, with the technology prefix that was found and the row
-- that was used
pub data IsSentTo (known : List (List ℕ)) (commands : List Command) (digits : List ℕ)
    : List ℕ → Option (List ℕ) → Option ZoneRow → Type 0 where
  -- the zone picked from the hop-off zones of the technology prefix
  ByHopoff : (prefix zone : List ℕ) → IsTechnology known digits prefix
      → IsPicked commands (hopoffs_of commands prefix) zone
      → IsSentTo known commands digits zone (Some prefix) None
  -- the zone of the longest matching pattern
  ByPattern : (technology : Option (List ℕ)) (rest : List ℕ) (row : ZoneRow)
      → IsLookedFor known commands digits technology rest → IsLongestRow commands rest row
      → IsSentTo known commands digits row.1 technology (Some row)

-- the call of a caller of this zone is to reach an endpoint of a zone: the local zone to which the
-- commands send its digits; or the caller's own, since no pattern matches
pub data IsToReach (known : List (List ℕ)) (commands : List Command) (caller digits : List ℕ)
    : List ℕ → Option (List ℕ) → Option ZoneRow → Type 0 where
  Sent : (zone : List ℕ) (technology : Option (List ℕ)) (row : Option ZoneRow)
      → IsSentTo known commands digits zone technology row → zone_of commands zone ≡ Some Local
      → IsToReach known commands caller digits zone technology row
  Kept : (technology : Option (List ℕ)) (rest : List ℕ)
      → IsLookedFor known commands digits technology rest → NoneMatches commands rest
      → rejects_unknown commands ≡ false
      → IsToReach known commands caller digits caller technology None

-- ---- endpoints
-- the endpoint is registered in the zone, and the digits are one of its aliases
abbrev pub HasDigits : List ℕ → List ℕ → EndpointParts → Type 0
HasDigits zone digits e = (e.zone ≡ zone) × Contains e.aliases digits

-- no endpoint of the zone has the digits as an alias
abbrev pub ReachesNone : List EndpointParts → List ℕ → List ℕ → Type 0
ReachesNone endpoints zone digits = All (λ e. ¬ HasDigits zone digits e) endpoints

-- ---- the technology prefixes of a state
-- the known ones: those that gateways of local zones gave, and those that the commands declare
abbrev pub prefixes_known : State → List (List ℕ)
prefixes_known s = learned_prefixes s.commands s.endpoints ++ prefixes_of s.commands

-- ---- an admission that is granted
-- the ways in which the digits of a caller of this zone lead to a destination
pub data IsLedTo (s : State) (caller digits : List ℕ) : Destination → Type 0 where
  -- to the remote zone to which the commands send them
  Away : (zone : List ℕ) (technology : Option (List ℕ)) (row : Option ZoneRow)
      (address : AddressParts) (cost priority : ℕ)
      → IsSentTo (prefixes_known s) s.commands digits zone technology row
      → zone_of s.commands zone ≡ Some (Remote address cost priority)
      → IsLedTo s caller digits (destinations.Zone zone address)
  -- to the chosen gateway for the technology prefix of the digits
  ByTechnology : (zone prefix : List ℕ) (row : Option ZoneRow) (e : EndpointParts)
      → IsToReach (prefixes_known s) s.commands caller digits zone (Some prefix) row
      → IsChosen s.commands s.endpoints zone prefix row e
      → IsLedTo s caller digits (destinations.Gateway e.id e.address)
  -- to the first endpoint of the zone that has the digits as an alias, as what it registered
  ByAlias : (zone : List ℕ) (row : Option ZoneRow) (e : EndpointParts)
      → IsToReach (prefixes_known s) s.commands caller digits zone None row
      → IsFirst (HasDigits zone digits) s.endpoints e
      → IsLedTo s caller digits (destination_of e.kind e)
  -- to the chosen gateway for the default technology, since no endpoint of the zone has the digits
  ByDefault : (zone prefix : List ℕ) (row : Option ZoneRow) (e : EndpointParts)
      → IsToReach (prefixes_known s) s.commands caller digits zone None row
      → ReachesNone s.endpoints zone digits
      → default_technology_of s.commands ≡ Some prefix
      → IsChosen s.commands s.endpoints zone prefix row e
      → IsLedTo s caller digits (destinations.Gateway e.id e.address)

-- the caller is registered, and its digits lead to the destination
pub record IsRouted (s : State) (id digits : List ℕ) (destination : Destination) : Type 0 where
  pub caller : EndpointParts
  pub registered : endpoint_of s.endpoints id ≡ Some caller
  pub led : IsLedTo s caller.zone digits destination

-- ---- an admission that is refused
-- the ways in which the digits of a caller of this zone lead nowhere
pub data IsLost (s : State) (caller digits : List ℕ) : RouteRefusal → Type 0 where
  -- no pattern matches, and such digits are rejected
  Rejected : (technology : Option (List ℕ)) (rest : List ℕ)
      → IsLookedFor (prefixes_known s) s.commands digits technology rest
      → NoneMatches s.commands rest
      → rejects_unknown s.commands ≡ true → IsLost s caller digits refusals.UnknownPrefix
  -- the zone has no gateway for the technology prefix of the digits
  WithoutTechnology : (zone prefix : List ℕ) (row : Option ZoneRow)
      → IsToReach (prefixes_known s) s.commands caller digits zone (Some prefix) row
      → HasNoCandidate s.commands s.endpoints zone prefix row
      → IsLost s caller digits refusals.NoGateway
  -- no endpoint of the zone has the digits, and it has no gateway for the default technology
  WithoutDefault : (zone prefix : List ℕ) (row : Option ZoneRow)
      → IsToReach (prefixes_known s) s.commands caller digits zone None row
      → ReachesNone s.endpoints zone digits
      → default_technology_of s.commands ≡ Some prefix
      → HasNoCandidate s.commands s.endpoints zone prefix row
      → IsLost s caller digits refusals.NoGateway
  -- no endpoint of the zone has the digits, and no default technology is set
  WithoutAlias : (zone : List ℕ) (row : Option ZoneRow)
      → IsToReach (prefixes_known s) s.commands caller digits zone None row
      → ReachesNone s.endpoints zone digits
      → default_technology_of s.commands ≡ None
      → IsLost s caller digits refusals.NoDefault

-- the caller is registered, and its digits lead nowhere
pub record IsUnrouted (s : State) (id digits : List ℕ) (refusal : RouteRefusal) : Type 0 where
  pub caller : EndpointParts
  pub registered : endpoint_of s.endpoints id ≡ Some caller
  pub lost : IsLost s caller.zone digits refusal

-- ---- the laws
-- under an accepted configuration, whoever is registered: an admission that is granted, for the
-- call and the bandwidth that were asked, goes where its digits lead
abbrev pub AdmissionsAreRouted : Type 0
AdmissionsAreRouted =
    (lines : List (List ℕ)) (configuration : Configuration) (s : State)
    → reading_in lines ≡ Ok configuration → s.commands ≡ configuration.commands
    → (call units : ℕ) (id digits : List ℕ) (replied_call granted : ℕ) (destination : Destination)
    → verdict_of s (Admitting id call digits units) ≡ Admitted replied_call destination granted
    → (replied_call ≡ call) × (granted ≡ units) × IsRouted s id digits destination

-- and one that is refused for its route has digits that lead nowhere, for this reason
abbrev pub RefusalsAreUnrouted : Type 0
RefusalsAreUnrouted =
    (lines : List (List ℕ)) (configuration : Configuration) (s : State)
    → reading_in lines ≡ Ok configuration → s.commands ≡ configuration.commands
    → (call units : ℕ) (id digits : List ℕ) (replied_call : ℕ) (refusal : RouteRefusal)
    → verdict_of s (Admitting id call digits units) ≡ AdmitRefused replied_call (NoRoute refusal)
    → (replied_call ≡ call) × IsUnrouted s id digits refusal

-- a caller is refused as not registered exactly if it is not
abbrev pub StrangersAreRefused : Type 0
StrangersAreRefused =
    (s : State) (call units : ℕ) (id digits : List ℕ)
    → (verdict_of s (Admitting id call digits units) ≡ AdmitRefused call CallerNotRegistered)
    ↔ (endpoint_of s.endpoints id ≡ None)

-- a call number is refused as open exactly if the caller is registered and a call of it is open
abbrev pub OpenNumbersAreRefused : Type 0
OpenNumbersAreRefused =
    (s : State) (call units : ℕ) (id digits : List ℕ)
    → (verdict_of s (Admitting id call digits units) ≡ AdmitRefused call CallOpen)
    ↔ ((is_registered s.endpoints id ≡ true) × (is_open s.calls call ≡ true))
