-- Bandwidth limits, in units of 100 bit/s for both directions together (H.225.0): ten for each
-- kbit/s of Cisco's `bandwidth` command.
use Rattle.std.specs.Prelude.{ℕ, ◌*◌, Bool, true, false, ◌&&◌, List, Option, Some, None, option_map, bytes_eq, if◌then◌else◌}
use Rattle.std.specs.List.{filter_map}
use Rattle.std.specs.Option.{option_or}
use Rattle.gk_commands.specs.declared.commands.LimitKind.{LimitKind}
use Rattle.gk_commands.specs.declared.commands.LimitKind.TheVariants.{Session, Total, Interzone}
use Rattle.gk_commands.specs.declared.commands.Command.{Command}
use Rattle.gk_commands.specs.declared.commands.Command.TheVariants.{ZoneLocal, ZoneRemote, ZonePrefix, GwTypePrefix, RejectUnknownPrefix, BandwidthDefault, BandwidthZone, BandwidthRemote}
use Rattle.gk_commands.specs.Zones.{is_local}
use Rattle.compiler.specs.declared.limits.ZoneLimits.{ZoneLimits}
use Rattle.compiler.specs.Last.{last_in}

abbrev pub same_kind : LimitKind → LimitKind → Bool
same_kind Session Session = true
same_kind Session Total = false
same_kind Session Interzone = false
same_kind Total Session = false
same_kind Total Total = true
same_kind Total Interzone = false
same_kind Interzone Session = false
same_kind Interzone Total = false
same_kind Interzone Interzone = true

-- the size that a command gives this kind of limit for each local zone
abbrev pub default_size : LimitKind → Command → Option ℕ
default_size kind (ZoneLocal name domain address) = None
default_size kind (ZoneRemote name domain address cost priority) = None
default_size kind (ZonePrefix zone pattern gateways) = None
default_size kind (GwTypePrefix prefix hopoffs is_default) = None
default_size kind RejectUnknownPrefix = None
default_size kind (BandwidthDefault said size) = if same_kind said kind then Some size else None
default_size kind (BandwidthZone said zone size) = None
default_size kind (BandwidthRemote size) = None

-- the size that a command gives this kind of limit for this zone
abbrev pub zone_size : LimitKind → List ℕ → Command → Option ℕ
zone_size kind zone (ZoneLocal name domain address) = None
zone_size kind zone (ZoneRemote name domain address cost priority) = None
zone_size kind zone (ZonePrefix prefixed pattern gateways) = None
zone_size kind zone (GwTypePrefix prefix hopoffs is_default) = None
zone_size kind zone RejectUnknownPrefix = None
zone_size kind zone (BandwidthDefault said size) = None
zone_size kind zone (BandwidthZone said named size) =
    if same_kind said kind && bytes_eq named zone then Some size else None
zone_size kind zone (BandwidthRemote size) = None

-- the size that a command gives all calls to and from other gatekeepers together
abbrev pub remote_size : Command → Option ℕ
remote_size (ZoneLocal name domain address) = None
remote_size (ZoneRemote name domain address cost priority) = None
remote_size (ZonePrefix zone pattern gateways) = None
remote_size (GwTypePrefix prefix hopoffs is_default) = None
remote_size RejectUnknownPrefix = None
remote_size (BandwidthDefault kind size) = None
remote_size (BandwidthZone kind zone size) = None
remote_size (BandwidthRemote size) = Some size

-- kbit/s in units of 100 bit/s
abbrev pub units_of_kbps : ℕ → ℕ
units_of_kbps kbps = 10 * kbps

-- what the last command for the zone says, or else the last one for each zone
abbrev pub size_for : List Command → LimitKind → List ℕ → Option ℕ
size_for commands kind zone =
    option_or (last_in (filter_map (zone_size kind zone) commands))
    (last_in (filter_map (default_size kind) commands))

-- the limit of a zone; a zone that is not local has none
abbrev pub limit_of : List Command → LimitKind → List ℕ → Option ℕ
limit_of commands kind zone =
    if is_local commands zone then option_map units_of_kbps (size_for commands kind zone) else None

-- the limits of a zone
abbrev pub limits_of : List Command → List ℕ → ZoneLimits
limits_of commands zone = record {
  session = limit_of commands Session zone;
  total = limit_of commands Total zone;
  interzone = limit_of commands Interzone zone;
}

-- the limit of all calls to and from other gatekeepers together
abbrev pub remote_limit_of : List Command → Option ℕ
remote_limit_of commands = option_map units_of_kbps (last_in (filter_map remote_size commands))
