-- The sums of a call beside the others, as they are tried.
use Rattle.std.specs.Prelude.{◌≡◌, ℕ, ◌+◌, Bool, List, ◌∷◌, find, Option, Some, None, option_map, IfSome, if◌then◌else◌}
use Rattle.std.specs.Option.{option_or, option_to_list}
use Rattle.gk_commands.specs.declared.commands.Command.{Command}
use Rattle.gk_commands.specs.declared.commands.LimitKind.{LimitKind}
use Rattle.gk_commands.specs.declared.commands.LimitKind.TheVariants.{Session, Total, Interzone}
use Rattle.bandwidth.specs.declared.open_call.OpenCall.{OpenCall}
use Rattle.bandwidth.specs.declared.over.Over.{Over}
use Rattle.bandwidth.specs.declared.over.Over.TheVariants as overs
use Rattle.compiler.specs.Limit.{limit_of, remote_limit_of}
use Rattle.bandwidth.specs.declared.tried_zones.TriedZone.{TriedZone}
use Rattle.bandwidth.specs.declared.tried_zones.TriedZones.{TriedZones}
use Rattle.bandwidth.specs.Use.{zones_touched, is_interzone, total_of, interzone_of, remote_of}
use Rattle.bandwidth.specs.Fits.{Try, is_above, fails, tries_of_kind}

-- what the call that was found counts, if it passes the test
abbrev pub part_found : (OpenCall → Bool) → Option OpenCall → ℕ
part_found test None = 0
part_found test (Some call) = if test call then call.units else 0

-- a sum of a zone, with the call beside the others
abbrev pub sum_beside : LimitKind → List OpenCall → OpenCall → List ℕ → ℕ
sum_beside Session others call zone = call.units
sum_beside Total others call zone = total_of others zone + call.units
sum_beside Interzone others call zone = interzone_of others zone + call.units

-- the same as it is tried
abbrev pub try_of : List Command → LimitKind → List OpenCall → OpenCall → List ℕ → Try
try_of commands kind others call zone = record {
  sum = sum_beside kind others call zone;
  limit = limit_of commands kind zone;
  over = overs.Zone kind zone;
}

-- a zone that was tried: each of its sums is said to be above its limit exactly if it is
pub record IsTried (commands : List Command) (others : List OpenCall) (call : OpenCall)
    (zone : TriedZone) : Type 0 where
  pub session : zone.session ≡ fails (try_of commands Session others call zone.name.now)
  pub total : zone.total ≡ fails (try_of commands Total others call zone.name.now)
  pub interzone : zone.interzone ≡ fails (try_of commands Interzone others call zone.name.now)

-- zones that were tried: those that the call touches
pub record AreTried (commands : List Command) (others : List OpenCall) (call : OpenCall)
    (zones : TriedZones) : Type 0 where
  pub touched : zones_touched call
      ≡ zones.first.name.now ∷ option_to_list (option_map (λ zone. zone.name.now) zones.second)
  pub first : IsTried commands others call zones.first
  pub second : IfSome zones.second (IsTried commands others call)

-- what is named if a sum is above its limit
abbrev pub over_if_above : ℕ → Option ℕ → Over → Option Over
over_if_above sum limit over = if is_above sum limit then Some over else None

-- what the first try that fails names
abbrev pub first_over : List Try → Option Over
first_over tries = option_map (λ t. t.over) (find fails tries)

-- the sums of one kind
abbrev pub over_in : List Command → LimitKind → List OpenCall → OpenCall → Option Over
over_in commands kind others call =
    first_over (tries_of_kind commands kind (sum_beside kind others call) call)

-- whether the sum of this kind of a zone that was tried is above its limit
abbrev pub is_over : LimitKind → TriedZone → Bool
is_over Session zone = zone.session
is_over Total zone = zone.total
is_over Interzone zone = zone.interzone

-- the sum of this kind of a zone that was tried, if it is above its limit
abbrev pub over_named : LimitKind → TriedZone → Option Over
over_named kind zone = if is_over kind zone then Some (overs.Zone kind zone.name.now) else None

-- the same of the second zone, if there is one
abbrev pub over_second : LimitKind → Option TriedZone → Option Over
over_second kind None = None
over_second kind (Some zone) = over_named kind zone

-- the first sum of this kind that is above its limit, of the zones that were tried
abbrev pub over_tried : LimitKind → TriedZones → Option Over
over_tried kind zones = option_or (over_named kind zones.first) (over_second kind zones.second)

-- the interzone sums, if the call is between two zones
abbrev pub over_between : List Command → List OpenCall → OpenCall → Option Over
over_between commands others call =
    if is_interzone call then over_in commands Interzone others call else None

-- the sum of all calls marked as remote, if the call is one of them
abbrev pub over_remotely : List Command → List OpenCall → OpenCall → Option Over
over_remotely commands others call =
    if call.remote
    then over_if_above (remote_of others + call.units) (remote_limit_of commands) overs.Remote
    else None
