-- What the commands alone say of dialled digits: a technology prefix, its hop-off zone, and else
-- the longest matching zone prefix. This project's profile, after Cisco's flow for an admission
-- request.
use Rattle.std.specs.Prelude.{◌≡◌, ◌<◌, ℕ, Bool, true, false, List, [], length, drop, slice_get, Option, Some, None, option_map, option_and_then, bytes_eq, if◌then◌else◌}
use Rattle.std.specs.List.{list_any}
use Rattle.gk_terms.specs.Address.{AddressParts}
use Rattle.gk_commands.specs.declared.commands.Command.{Command}
use Rattle.gk_commands.specs.declared.commands.Command.TheVariants.{ZoneLocal, ZoneRemote, ZonePrefix, GwTypePrefix, RejectUnknownPrefix, BandwidthDefault, BandwidthZone, BandwidthRemote}
use Rattle.gk_commands.specs.declared.zones.ZoneKind.{ZoneKind}
use Rattle.gk_commands.specs.declared.zones.ZoneKind.TheVariants as kinds
use Rattle.gk_commands.specs.Zones.{zone_of}
use Rattle.compiler.specs.declared.plans.Plan.{Plan}
use Rattle.compiler.specs.declared.plans.Plan.TheVariants as plans
use Rattle.compiler.specs.Pick.{picked}
use Rattle.compiler.specs.Technology.{technology_of, technology_among, longest_learned, found_length, hopoffs_of}
use Rattle.compiler.specs.Rows.{ZoneRow, row_for, picked_rows_of}
use Rattle.compiler.specs.Zones.{zone_at}

-- where a call is to go, as far as the commands say
pub data Target : Type 0 where
  -- to a zone of another gatekeeper, at its address
  RemoteZone : (zone : List ℕ) (address : AddressParts) → Target
  -- to a local zone, with the technology prefix that was found and the row that was used
  LocalZone : (zone : List ℕ) (technology : Option (List ℕ)) (row : Option ZoneRow) → Target
  -- to the caller's zone, with the technology prefix that was found
  CallersZone : (technology : Option (List ℕ)) → Target
  -- nowhere: no zone prefix matches, and such digits are rejected
  UnknownPrefix : Target

-- a zone as the target. In an accepted configuration each zone that is named is declared
abbrev pub target_in : List ℕ → Option (List ℕ) → Option ZoneRow → Option ZoneKind → Target
target_in zone technology row None = UnknownPrefix
target_in zone technology row (Some kinds.Local) = LocalZone zone technology row
target_in zone technology row (Some (kinds.Remote address cost priority)) =
    RemoteZone zone address

-- whether a command is `arq reject-unknown-prefix`
abbrev pub is_reject : Command → Bool
is_reject (ZoneLocal name domain address) = false
is_reject (ZoneRemote name domain address cost priority) = false
is_reject (ZonePrefix zone pattern gateways) = false
is_reject (GwTypePrefix prefix hopoffs is_default) = false
is_reject RejectUnknownPrefix = true
is_reject (BandwidthDefault kind size) = false
is_reject (BandwidthZone kind zone size) = false
is_reject (BandwidthRemote size) = false

-- whether digits that no zone prefix matches are rejected
abbrev pub rejects_unknown : List Command → Bool
rejects_unknown commands = list_any is_reject commands

-- the zone of the row that was found; else the caller's zone, unless such digits are rejected
abbrev pub by_row : List Command → Option (List ℕ) → Option ZoneRow → Target
by_row commands technology (Some row) =
    target_in row.1 technology (Some row) (zone_of commands row.1)
by_row commands technology None =
    if rejects_unknown commands then UnknownPrefix else CallersZone technology

-- the hop-off zone that is picked; without one, by the digits after the prefix
abbrev pub by_hopoff : List Command → List ℕ → List ℕ → Option (List ℕ) → Target
by_hopoff commands prefix rest (Some zone) =
    target_in zone (Some prefix) None (zone_of commands zone)
by_hopoff commands prefix rest None = by_row commands (Some prefix) (row_for commands rest)

-- by the technology prefix with which the digits begin, if there is one
abbrev pub by_technology : List Command → List ℕ → Option (List ℕ) → Target
by_technology commands digits None = by_row commands None (row_for commands digits)
by_technology commands digits (Some prefix) =
    by_hopoff commands prefix (drop (length prefix) digits)
    (picked commands (hopoffs_of commands prefix))

-- what the commands alone say of the digits
unfoldable pub plan_of : List Command → List ℕ → Target
plan_of commands digits = by_technology commands digits (technology_of commands digits)

-- what the commands say of the digits, if these technology prefixes were learned too
unfoldable pub plan_with : List (List ℕ) → List Command → List ℕ → Target
plan_with learned commands digits =
    by_technology commands digits (technology_among learned commands digits)

-- the plan after a technology prefix that has no hop-off zone
abbrev pub plan_after : List Command → List ℕ → List ℕ → Target
plan_after commands digits prefix =
    by_row commands (Some prefix) (row_for commands (drop (length prefix) digits))

-- with no learned prefix it is the plan of the commands alone
abbrev pub LearnsNothing : Type 0
LearnsNothing =
    (commands : List Command) (digits : List ℕ)
    → plan_with [] commands digits ≡ plan_of commands digits

-- no learned prefix is longer than the declared one: the plan of the commands alone
abbrev pub LearnedIsNoLonger : Type 0
LearnedIsNoLonger =
    (learned : List (List ℕ)) (commands : List Command) (digits : List ℕ)
    → longest_learned learned digits (found_length (technology_of commands digits)) ≡ None
    → ((prefix : List ℕ) → list_any (λ one. bytes_eq one prefix) learned ≡ true → 0 < length prefix)
    → plan_with learned commands digits ≡ plan_of commands digits

-- one is longer: the plan after it
abbrev pub LearnedIsLonger : Type 0
LearnedIsLonger =
    (learned : List (List ℕ)) (commands : List Command) (digits prefix : List ℕ)
    → longest_learned learned digits (found_length (technology_of commands digits)) ≡ Some prefix
    → plan_with learned commands digits ≡ plan_after commands digits prefix

-- ---- a plan of numbered zones and rows
-- a remote zone as the target; nothing if the zone is a local one
abbrev pub remote_target : List ℕ × ZoneKind → Option Target
remote_target (name, kinds.Local) = None
remote_target (name, kinds.Remote address cost priority) = Some (RemoteZone name address)

-- a local zone as the target; nothing if the zone is a remote one
abbrev pub local_target : Option (List ℕ) → Option ZoneRow → List ℕ × ZoneKind → Option Target
local_target technology row (name, kinds.Local) = Some (LocalZone name technology row)
local_target technology row (name, kinds.Remote address cost priority) = None

-- the row of a number
abbrev pub row_at : List Command → ℕ → Option ZoneRow
row_at commands number = slice_get (picked_rows_of commands) number

-- the row that was used, if there is one, by its number; nothing if the number is out of range
abbrev pub row_meant : List Command → Option ℕ → Option (Option ZoneRow)
row_meant commands None = Some None
row_meant commands (Some number) = option_map (λ row. Some row) (row_at commands number)

-- what a plan means under its commands; nothing if a number is out of range, or of the other kind
-- of zone
abbrev pub target_of : List Command → Plan → Option Target
target_of commands (plans.Remote zone) = option_and_then remote_target (zone_at commands zone)
target_of commands (plans.Local zone technology row) =
    option_and_then (λ used. option_and_then (local_target technology used) (zone_at commands zone))
    (row_meant commands row)
target_of commands (plans.Caller technology) = Some (CallersZone technology)
target_of commands plans.UnknownPrefix = Some UnknownPrefix

-- ---- the target zone
-- the zone to which a target leads a caller of this zone; the caller's own if it leads nowhere
abbrev pub zone_of_target : List ℕ → Target → List ℕ
zone_of_target caller (RemoteZone zone address) = zone
zone_of_target caller (LocalZone zone technology row) = zone
zone_of_target caller (CallersZone technology) = caller
zone_of_target caller UnknownPrefix = caller

-- whether it is a zone of another gatekeeper
abbrev pub is_remote : Target → Bool
is_remote (RemoteZone zone address) = true
is_remote (LocalZone zone technology row) = false
is_remote (CallersZone technology) = false
is_remote UnknownPrefix = false
