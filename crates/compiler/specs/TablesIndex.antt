-- What the tables keep, beside the commands that they were compiled from.
use Rattle.std.specs.Prelude.{◌≡◌, ℕ, ◌+◌, ◌≤◌, ◌<◌, ◌==◌, Bool, ◌&&◌, true, false, List, [], ◌∷◌, ◌++◌, length, take, fold, map, slice_get, Option, Some, None, option_map, option_and_then, unwrap_or, is_some, nat_eq, bytes_eq, if◌then◌else◌}
use Rattle.std.specs.List.{All, IsDistinct, filter_map, list_any}
use Rattle.std.specs.Map.{lookup, keys_of}
use Rattle.std.specs.Option.{option_or}
use Rattle.indexmap.specs.IndexMap.{IndexMap}
use Rattle.gk_terms.specs.Choice.{better}
use Rattle.gk_terms.specs.TechPrefix.{is_tech_prefix}
use Rattle.gk_terms.specs.declared.limits.TheConstants.{MOST_ZONES}
use Rattle.digit_patterns.specs.PatternParts.{PatternParts}
use Rattle.digit_patterns.specs.Pattern.{same_pattern}
use Rattle.gk_commands.specs.declared.commands.Command.{Command}
use Rattle.gk_commands.specs.declared.commands.Command.TheVariants.{ZoneLocal, ZoneRemote, ZonePrefix, GwTypePrefix, RejectUnknownPrefix, BandwidthDefault, BandwidthZone, BandwidthRemote}
use Rattle.gk_commands.specs.declared.commands.GatewayPriority.{GatewayPriority}
use Rattle.gk_commands.specs.declared.commands.LimitKind.{LimitKind}
use Rattle.gk_commands.specs.declared.commands.LimitKind.TheVariants.{Session, Total, Interzone}
use Rattle.gk_commands.specs.declared.zones.ZoneKind.{ZoneKind}
use Rattle.gk_commands.specs.declared.zones.ZoneKind.TheVariants as kinds
use Rattle.gk_commands.specs.Zones.{zones_of, first_local_of, is_declared, is_local_kind, named_by}
use Rattle.compiler.specs.declared.limits.ZoneLimits.{ZoneLimits}
use Rattle.compiler.specs.declared.plans.Plan.{Plan}
use Rattle.compiler.specs.declared.plans.Plan.TheVariants as plans
use Rattle.compiler.specs.Last.{last_in}
use Rattle.compiler.specs.Limit.{same_kind, default_size, zone_size, units_of_kbps, remote_limit_of}
use Rattle.compiler.specs.Pick.{is_option_preferred}
use Rattle.compiler.specs.Plan.{rejects_unknown}
use Rattle.compiler.specs.Priority.{priority_among, entries_of}
use Rattle.compiler.specs.Rows.{ZoneRow, row_of, rows_of, zones_for, first_rows_of}
use Rattle.compiler.specs.Technology.{prefixes_of, hopoffs_of, default_technology_of}
use Rattle.compiler.specs.Zones.{number_in}

-- ---- zones by their numbers
-- names with what is declared of them; the number of a zone is its place
abbrev pub Zones : Type 0
Zones = List (List ℕ × ZoneKind)

-- the kind of the zone of a number
abbrev pub kind_at : Zones → ℕ → Option ZoneKind
kind_at zones number = option_map (λ zone. zone.1) (slice_get zones number)

-- whether the zone of a number is taken before that of another
abbrev pub is_number_before : Zones → ℕ → ℕ → Bool
is_number_before zones number other =
    is_option_preferred (kind_at zones number) (kind_at zones other)

-- the better of the best so far and one more
abbrev pub better_in : Zones → Option ℕ → ℕ → Option ℕ
better_in zones best number = better (is_number_before zones) best number

-- the best of some names, by number, after the best so far
abbrev pub best_after : Zones → Option ℕ → List (List ℕ) → Option ℕ
best_after zones best names = fold (better_in zones) best (map (number_in zones) names)

-- the best of some names, by number
abbrev pub best_number : Zones → List (List ℕ) → Option ℕ
best_number zones names = best_after zones None names

-- the plan for calls to a zone of this kind
abbrev pub plan_to : Option ZoneKind → ℕ → Option (List ℕ) → Option ℕ → Plan
plan_to None zone technology row = plans.UnknownPrefix
plan_to (Some kinds.Local) zone technology row = plans.Local zone technology row
plan_to (Some (kinds.Remote address cost priority)) zone technology row = plans.Remote zone

-- ---- technology prefixes
-- the hop-off zones that a command names for the prefix that it declares
abbrev pub hopoffs_named : Command → List (List ℕ)
hopoffs_named (ZoneLocal name domain address) = []
hopoffs_named (ZoneRemote name domain address cost priority) = []
hopoffs_named (ZonePrefix zone pattern gateways) = []
hopoffs_named (GwTypePrefix prefix hopoffs is_default) = hopoffs
hopoffs_named RejectUnknownPrefix = []
hopoffs_named (BandwidthDefault kind size) = []
hopoffs_named (BandwidthZone kind zone size) = []
hopoffs_named (BandwidthRemote size) = []

-- declared prefixes, each with the number of its hop-off zone if it has one
abbrev pub Technologies : Type 0
Technologies = List (List ℕ × Option ℕ)

-- what a map says of a prefix: its hop-off zone, if it is declared
abbrev pub technology_at : Technologies → List ℕ → Option (Option ℕ)
technology_at technologies prefix = lookup (bytes_eq prefix) technologies

-- each declared prefix is at most this long
abbrev pub AreWithin : ℕ → Technologies → Type 0
AreWithin longest technologies =
    (prefix : List ℕ) → is_some (technology_at technologies prefix) ≡ true
    → length prefix ≤ longest

-- the hop-off zone of a prefix; none either if the prefix is not declared
abbrev pub hopoff_at : Technologies → List ℕ → Option ℕ
hopoff_at technologies prefix =
    option_and_then (λ hopoff. hopoff) (technology_at technologies prefix)

-- whether a prefix is among some
abbrev pub is_among : List (List ℕ) → List ℕ → Bool
is_among prefixes prefix = list_any (λ declared. bytes_eq declared prefix) prefixes

-- the map has the declared prefixes with their picked hop-off zones, and no other texts
pub record AreTechnologies (zones : Zones) (commands : List Command) (technologies : Technologies)
    : Type 0 where
  pub declared : (prefix : List ℕ) →
      is_some (technology_at technologies prefix) ≡ is_among (prefixes_of commands) prefix
  pub picked : (prefix : List ℕ) →
      hopoff_at technologies prefix ≡ best_number zones (hopoffs_of commands prefix)
  pub texts : (prefix : List ℕ) → is_some (technology_at technologies prefix) ≡ true →
      is_tech_prefix prefix ≡ true

-- what was found is kept for that beginning of the text, and nothing for a longer one
pub record IsFoundTechnology (technologies : Technologies) (text found : List ℕ) (hopoff : Option ℕ)
    : Type 0 where
  pub within : length found ≤ length text
  pub begins : found ≡ take (length found) text
  pub kept : technology_at technologies found ≡ Some hopoff
  pub longest : (count : ℕ) → length found < count → count ≤ length text →
      technology_at technologies (take count text) ≡ None

-- the longest beginning of the text for which something is kept, or nothing if there is none
abbrev pub IsLongest : Technologies → List ℕ → Option (List ℕ × Option ℕ) → Type 0
IsLongest technologies text None =
    (count : ℕ) → count ≤ length text → technology_at technologies (take count text) ≡ None
IsLongest technologies text (Some (found, hopoff)) = IsFoundTechnology technologies text found
    hopoff

-- ---- rows
-- each pattern with the number of the zone that is picked for it
abbrev pub NumberedRow : Type 0
NumberedRow = PatternParts × ℕ

-- the zone of a pattern
abbrev pub zone_at_pattern : List NumberedRow → PatternParts → Option ℕ
zone_at_pattern rows pattern = lookup (same_pattern pattern) rows

-- one more pattern, unless it is there
abbrev pub with_pattern : List PatternParts → PatternParts → List PatternParts
with_pattern patterns pattern =
    if list_any (λ other. same_pattern other pattern) patterns then patterns
    else (patterns ++ pattern ∷ [])

-- the map has the patterns in the order of their first lines, with their picked zones
pub record AreRows (zones : Zones) (commands : List Command) (rows : List NumberedRow)
    : Type 0 where
  pub patterns : keys_of rows ≡ keys_of (first_rows_of (rows_of commands))
  pub picked : (pattern : PatternParts) →
      zone_at_pattern rows pattern ≡ best_number zones (zones_for commands pattern)

-- each pattern with the place of its row; the first row is at this place
abbrev pub places_from : {V : Type 0} → ℕ → List (PatternParts × V) → List (PatternParts × ℕ)
places_from place [] = []
places_from place (row ∷ rows) = (row.0, place) ∷ places_from (place + 1) rows

abbrev pub places_of : {V : Type 0} → List (PatternParts × V) → List (PatternParts × ℕ)
places_of rows = places_from 0 rows

-- ---- gateways
-- the gateways that a command names, with their priority
abbrev pub gateways_named : Command → Option GatewayPriority
gateways_named (ZoneLocal name domain address) = None
gateways_named (ZoneRemote name domain address cost priority) = None
gateways_named (ZonePrefix zone pattern gateways) = gateways
gateways_named (GwTypePrefix prefix hopoffs is_default) = None
gateways_named RejectUnknownPrefix = None
gateways_named (BandwidthDefault kind size) = None
gateways_named (BandwidthZone kind zone size) = None
gateways_named (BandwidthRemote size) = None

-- whether what a `zone prefix` says is about a row of a pattern and a zone by number
abbrev pub is_about : Zones → NumberedRow → Option ZoneRow → Bool
is_about zones row None = false
is_about zones row (Some said) = (number_in zones said.1 == row.1) && same_pattern said.0 row.0

-- what a command says of a gateway for a row
abbrev pub numbered_priority_in : Zones → NumberedRow → List ℕ → Command → Option ℕ
numbered_priority_in zones row gateway command =
    if is_about zones row (row_of command) then priority_among gateway (gateways_named command)
    else None

-- what the last such command that names the gateway says
abbrev pub numbered_priority_of : Zones → List Command → NumberedRow → List ℕ → Option ℕ
numbered_priority_of zones commands row gateway =
    last_in (filter_map (numbered_priority_in zones row gateway) commands)

-- for some rows, by number, gateways with their priorities
abbrev pub Priorities : Type 0 → Type 0
Priorities S = List (ℕ × IndexMap (List ℕ) ℕ S)

-- the gateways of a row, each with its priority
abbrev pub priorities_at : {S : Type 0} → Priorities S → ℕ → List (List ℕ × ℕ)
priorities_at priorities place = entries_of (lookup (nat_eq place) priorities)

-- what is kept of a gateway for a row
abbrev pub kept_priority : {S : Type 0} → Priorities S → ℕ → List ℕ → Option ℕ
kept_priority priorities place gateway = lookup (bytes_eq gateway) (priorities_at priorities place)

-- whether a place was found, and it is this one
abbrev pub is_place : Option ℕ → ℕ → Bool
is_place None place = false
is_place (Some found) place = found == place

-- for each row, what the commands say of each gateway
abbrev pub ArePriorities : {S : Type 0} → Zones → List Command → List NumberedRow → Priorities S
    → Type 0
ArePriorities zones commands rows priorities =
    (place : ℕ) (row : NumberedRow) → slice_get rows place ≡ Some row → (gateway : List ℕ)
    → kept_priority priorities place gateway ≡ numbered_priority_of zones commands row gateway

-- ---- limits
-- the limits that this gives for each kind
abbrev pub limits_by : (LimitKind → Option ℕ) → ZoneLimits
limits_by limit_for = record {
  session = limit_for Session;
  total = limit_for Total;
  interzone = limit_for Interzone;
}

-- the limits of a zone that has none
abbrev pub no_limits : ZoneLimits
no_limits = limits_by (λ kind. None)

-- the limit of a kind
abbrev pub limit_in : ZoneLimits → LimitKind → Option ℕ
limit_in limits Session = limits.session
limit_in limits Total = limits.total
limit_in limits Interzone = limits.interzone

-- a limit, if it is of this kind
abbrev pub limit_if : LimitKind → ℕ → LimitKind → Option ℕ
limit_if said limit kind = if same_kind said kind then Some limit else None

-- each limit, or that of others if there is none
abbrev pub limits_or : ZoneLimits → ZoneLimits → ZoneLimits
limits_or limits others = record {
  session = option_or limits.session others.session;
  total = option_or limits.total others.total;
  interzone = option_or limits.interzone others.interzone;
}

-- the limits that a command gives each local zone
abbrev pub defaults_said : Command → ZoneLimits
defaults_said command =
    limits_by (λ kind. option_map units_of_kbps (default_size kind command))

-- the limits that the last commands give each local zone
abbrev pub default_limits_of : List Command → ZoneLimits
default_limits_of commands =
    limits_by (λ kind. option_map units_of_kbps (last_in (filter_map (default_size kind) commands)))

-- the limits that a command gives this zone
abbrev pub limits_said : List ℕ → Command → ZoneLimits
limits_said zone command =
    limits_by (λ kind. option_map units_of_kbps (zone_size kind zone command))

-- the limits that the last commands for this zone give it
abbrev pub own_limits_of : List Command → List ℕ → ZoneLimits
own_limits_of commands zone =
    limits_by (λ kind.
    option_map units_of_kbps (last_in (filter_map (zone_size kind zone) commands)))

-- the zone that a command gives limits, with those limits
abbrev pub named_limits : Command → Option (List ℕ × ZoneLimits)
named_limits (ZoneLocal name domain address) = None
named_limits (ZoneRemote name domain address cost priority) = None
named_limits (ZonePrefix zone pattern gateways) = None
named_limits (GwTypePrefix prefix hopoffs is_default) = None
named_limits RejectUnknownPrefix = None
named_limits (BandwidthDefault kind size) = None
named_limits (BandwidthZone kind zone size) =
    Some (zone, limits_by (limit_if kind (units_of_kbps size)))
named_limits (BandwidthRemote size) = None

-- what is kept of the zone of a name
abbrev pub kept_limits : Zones → List ZoneLimits → List ℕ → Option ZoneLimits
kept_limits zones limits name = slice_get limits (number_in zones name)

-- for each zone, at its number, the limits that commands give it itself
abbrev pub AreOwnLimits : Zones → List Command → List ZoneLimits → Type 0
AreOwnLimits zones commands limits =
    (name : List ℕ) → kept_limits zones limits name
    ≡ option_map (λ kind. own_limits_of commands name) (kind_at zones (number_in zones name))

-- these limits, if a zone of this kind may have any
abbrev pub limits_if_local : ZoneKind → ZoneLimits → ZoneLimits
limits_if_local kind limits = if is_local_kind kind then limits else no_limits

-- the limits of the zone of a number, which are its own over the defaults
abbrev pub limits_with : Zones → ZoneLimits → List ZoneLimits → ℕ → Option ZoneLimits
limits_with zones defaults own number =
    option_map (λ kind.
    limits_if_local kind (limits_or (unwrap_or (slice_get own number) no_limits) defaults))
    (kind_at zones number)

-- for each zone, at its number, its limits
abbrev pub AreLimits : Zones → List Command → List ZoneLimits → Type 0
AreLimits zones commands limits =
    (name : List ℕ) → kept_limits zones limits name
    ≡ option_map (λ kind.
    limits_if_local kind (limits_or (own_limits_of commands name) (default_limits_of commands)))
    (kind_at zones (number_in zones name))

-- ---- parts
-- what is made of the `zone prefix` lines: their patterns, the trie of these, and the gateways that
-- are named for them
pub record AreRoutes {S : Type 0} (zones : Zones) (commands : List Command)
    (rows : List NumberedRow) (prefixes : List (PatternParts × ℕ)) (priorities : Priorities S)
    : Type 0 where
  pub rows_are : AreRows zones commands rows
  pub distinct : IsDistinct same_pattern (keys_of rows)
  pub prefixes_are : prefixes ≡ places_of rows
  pub priorities_are : ArePriorities zones commands rows priorities

-- ---- the whole
-- the tables stand for the commands
pub record IsIndex {S : Type 0} (commands : List Command) (zones : Zones) (first_local : List ℕ)
    (rows : List NumberedRow) (prefixes : List (PatternParts × ℕ)) (priorities : Priorities S)
    (technologies : Technologies) (default_technology : Option (List ℕ)) (rejects : Bool)
    (limits : List ZoneLimits) (remote_limit : Option ℕ) : Type 0 where
  pub zones_are : zones ≡ zones_of commands
  pub few_zones : length zones ≤ MOST_ZONES
  pub local_is : Some first_local ≡ first_local_of commands
  pub rows_are : AreRows zones commands rows
  pub distinct : IsDistinct same_pattern (keys_of rows)
  pub prefixes_are : prefixes ≡ places_of rows
  pub priorities_are : ArePriorities zones commands rows priorities
  pub technologies_are : AreTechnologies zones commands technologies
  pub default_is : default_technology ≡ default_technology_of commands
  pub rejects_is : rejects ≡ rejects_unknown commands
  pub limits_are : AreLimits zones commands limits
  pub remote_limit_is : remote_limit ≡ remote_limit_of commands
  pub declared : All (λ command. All (λ name. is_declared commands name ≡ true)
      (named_by command)) commands
