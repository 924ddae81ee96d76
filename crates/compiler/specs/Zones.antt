-- The zone in which a registration is asked for, and zones by number.
use Rattle.std.specs.Prelude.{ℕ, List, slice_get, Option, Some, None, option_map, codes, bytes_eq, unwrap_or, if◌then◌else◌}
use Rattle.std.specs.List.{position_or_len}
use Rattle.gk_terms.specs.Address.{AddressParts}
use Rattle.gk_commands.specs.declared.commands.Command.{Command}
use Rattle.gk_commands.specs.declared.zones.ZoneKind.{ZoneKind}
use Rattle.gk_commands.specs.declared.zones.ZoneKind.TheVariants.{Local, Remote}
use Rattle.gk_commands.specs.Zones.{zones_of, first_local_of, is_local, is_local_kind}
use Rattle.compiler.specs.declared.zones.ZoneView.{ZoneView}

-- the zone `-` is the first local one
abbrev pub zone_meant : List Command → List ℕ → List ℕ
zone_meant commands zone =
    if bytes_eq zone (codes "-") then unwrap_or (first_local_of commands) zone else zone

-- the local zone that a registration means; nothing if it means none
abbrev pub local_zone : List Command → List ℕ → Option (List ℕ)
local_zone commands name =
    if is_local commands (zone_meant commands name) then Some (zone_meant commands name) else None

-- the zone of a number: its place among all zones, in line order
abbrev pub zone_at : List Command → ℕ → Option (List ℕ × ZoneKind)
zone_at commands number = slice_get (zones_of commands) number

-- where the gatekeeper of a zone is; nothing if the zone is controlled here
abbrev pub address_of_kind : ZoneKind → Option AddressParts
address_of_kind Local = None
address_of_kind (Remote address cost priority) = Some address

-- what the commands say of the zone of a number
abbrev pub view_of : ℕ → List ℕ × ZoneKind → ZoneView
view_of number zone = record {
  no = number;
  name = zone.0;
  local = is_local_kind zone.1;
  address = address_of_kind zone.1;
}

abbrev pub view_at : List Command → ℕ → Option ZoneView
view_at commands number = option_map (view_of number) (zone_at commands number)

-- the number of the zone of a name; the count of all zones if there is none
abbrev pub number_in : List (List ℕ × ZoneKind) → List ℕ → ℕ
number_in zones name = position_or_len (λ zone. bytes_eq name zone.0) zones

-- what the commands say of the zone of a name
abbrev pub view_of_name : List Command → List ℕ → Option ZoneView
view_of_name commands name = view_at commands (number_in (zones_of commands) name)
