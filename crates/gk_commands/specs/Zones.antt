-- The zones that commands declare and name.
use Rattle.std.specs.Prelude.{ℕ, Bool, true, false, List, [], ◌∷◌, Option, Some, None, bytes_eq, find, option_map}
use Rattle.std.specs.List.{filter_map, list_any}
use Rattle.gk_commands.specs.declared.zones.ZoneKind.{ZoneKind}
use Rattle.gk_commands.specs.declared.zones.ZoneKind.TheVariants.{Local, Remote}
use Rattle.gk_commands.specs.declared.commands.Command.{Command}
use Rattle.gk_commands.specs.declared.commands.Command.TheVariants.{ZoneLocal, ZoneRemote, ZonePrefix, GwTypePrefix, RejectUnknownPrefix, BandwidthDefault, BandwidthZone, BandwidthRemote}

-- the zone that a command declares, with its name
abbrev pub declared_by : Command → Option (List ℕ × ZoneKind)
declared_by (ZoneLocal name domain address) = Some (name, Local)
declared_by (ZoneRemote name domain address cost priority) =
    Some (name, Remote address cost priority)
declared_by (ZonePrefix zone pattern gateways) = None
declared_by (GwTypePrefix prefix hopoffs is_default) = None
declared_by RejectUnknownPrefix = None
declared_by (BandwidthDefault kind size) = None
declared_by (BandwidthZone kind zone size) = None
declared_by (BandwidthRemote size) = None

-- all zones, in line order
abbrev pub zones_of : List Command → List (List ℕ × ZoneKind)
zones_of commands = filter_map declared_by commands

-- whether a zone of that name is declared
abbrev pub is_declared : List Command → List ℕ → Bool
is_declared commands name = list_any (λ zone. bytes_eq name zone.0) (zones_of commands)

-- what the command that declares the name says of it
abbrev pub zone_of : List Command → List ℕ → Option ZoneKind
zone_of commands name =
    option_map (λ zone. zone.1) (find (λ zone. bytes_eq name zone.0) (zones_of commands))

abbrev pub is_local_kind : ZoneKind → Bool
is_local_kind Local = true
is_local_kind (Remote address cost priority) = false

-- whether a zone was found, and it is a local one
abbrev pub is_local_option : Option ZoneKind → Bool
is_local_option None = false
is_local_option (Some kind) = is_local_kind kind

-- whether the name is that of a local zone
abbrev pub is_local : List Command → List ℕ → Bool
is_local commands name = is_local_option (zone_of commands name)

-- the first local zone in line order
abbrev pub first_local_of : List Command → Option (List ℕ)
first_local_of commands =
    option_map (λ zone. zone.0) (find (λ zone. is_local_kind zone.1) (zones_of commands))

-- whether a command declares a local zone
abbrev pub is_local_command : Command → Bool
is_local_command command = is_local_option (option_map (λ zone. zone.1) (declared_by command))

-- the zones that a command names and that some command must declare
abbrev pub named_by : Command → List (List ℕ)
named_by (ZoneLocal name domain address) = []
named_by (ZoneRemote name domain address cost priority) = []
named_by (ZonePrefix zone pattern gateways) = zone ∷ []
named_by (GwTypePrefix prefix hopoffs is_default) = hopoffs
named_by RejectUnknownPrefix = []
named_by (BandwidthDefault kind size) = []
named_by (BandwidthZone kind zone size) = zone ∷ []
named_by (BandwidthRemote size) = []
