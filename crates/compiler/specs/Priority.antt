-- The priority of a gateway for a row: 0 to 10, from the `gw-priority` of Cisco's `zone prefix`.
use Rattle.std.specs.Prelude.{◌≡◌, ℕ, ◌&&◌, List, [], Option, Some, None, unwrap_or, bytes_eq, if◌then◌else◌}
use Rattle.std.specs.List.{filter_map, list_any}
use Rattle.std.specs.Map.{lookup}
use Rattle.indexmap.specs.IndexMap.{IndexMap}
use Rattle.digit_patterns.specs.Pattern.{same_pattern}
use Rattle.gk_commands.specs.declared.commands.Command.{Command}
use Rattle.gk_commands.specs.declared.commands.Command.TheVariants.{ZoneLocal, ZoneRemote, ZonePrefix, GwTypePrefix, RejectUnknownPrefix, BandwidthDefault, BandwidthZone, BandwidthRemote}
use Rattle.gk_commands.specs.declared.commands.GatewayPriority.{GatewayPriority}
use Rattle.compiler.specs.declared.plans.TheConstants.{DEFAULT_GATEWAY_PRIORITY}
use Rattle.compiler.specs.Last.{last_in}
use Rattle.compiler.specs.Rows.{ZoneRow}

-- the priority of a list of gateways, if it names this one
abbrev pub priority_among : List ℕ → Option GatewayPriority → Option ℕ
priority_among gateway None = None
priority_among gateway (Some named) =
    if list_any (bytes_eq gateway) named.gateways then Some named.priority else None

-- what a command for the zone and the pattern of a row says of a gateway
abbrev pub priority_in : ZoneRow → List ℕ → Command → Option ℕ
priority_in row gateway (ZoneLocal name domain address) = None
priority_in row gateway (ZoneRemote name domain address cost priority) = None
priority_in row gateway (ZonePrefix zone pattern gateways) =
    if bytes_eq zone row.1 && same_pattern pattern row.0 then priority_among gateway gateways
    else None
priority_in row gateway (GwTypePrefix prefix hopoffs is_default) = None
priority_in row gateway RejectUnknownPrefix = None
priority_in row gateway (BandwidthDefault kind size) = None
priority_in row gateway (BandwidthZone kind zone size) = None
priority_in row gateway (BandwidthRemote size) = None

-- what the last such command that names the gateway says
abbrev pub named_priority_of : List Command → ZoneRow → List ℕ → Option ℕ
named_priority_of commands row gateway = last_in (filter_map (priority_in row gateway) commands)

-- the same, or else 5; 5 also if no row was used
abbrev pub priority_of : List Command → Option ZoneRow → List ℕ → ℕ
priority_of commands None gateway = DEFAULT_GATEWAY_PRIORITY
priority_of commands (Some row) gateway =
    unwrap_or (named_priority_of commands row gateway) DEFAULT_GATEWAY_PRIORITY

-- the gateways of a map with their priorities; none if there is no map
abbrev pub entries_of : {S : Type 0} → Option (IndexMap (List ℕ) ℕ S) → List (List ℕ × ℕ)
entries_of None = []
entries_of (Some gateways) = gateways.entries

-- the priority by a list of gateways with their priorities, or else 5
abbrev pub named_priority : List (List ℕ × ℕ) → List ℕ → ℕ
named_priority named gateway = unwrap_or (lookup (bytes_eq gateway) named) DEFAULT_GATEWAY_PRIORITY

-- the list has the gateways that commands name for the row, with their priorities, and no other
-- one; none if no row was used
abbrev pub AreNamedFor : List Command → Option ZoneRow → List (List ℕ × ℕ) → Type 0
AreNamedFor commands None named = named ≡ []
AreNamedFor commands (Some row) named =
    (gateway : List ℕ) → lookup (bytes_eq gateway) named ≡ named_priority_of commands row gateway
