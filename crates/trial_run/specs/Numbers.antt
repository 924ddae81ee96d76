-- The zones that the call of an admission touches, by their numbers.
use Rattle.std.specs.Prelude.{ℕ, List, Option, Some, None, if◌then◌else◌}
use Rattle.gk_commands.specs.declared.commands.Command.{Command}
use Rattle.gk_commands.specs.Zones.{is_local, zones_of}
use Rattle.compiler.specs.declared.zones.ZoneView.{ZoneView}
use Rattle.compiler.specs.Zones.{number_in}
use Rattle.registry.specs.Endpoint.{EndpointParts}
use Rattle.rulings.specs.declared.routes.Route.{Route}
use Rattle.rulings.specs.declared.routes.Route.TheVariants.{To, Refused}
use Rattle.call_rows.specs.declared.rows.AskedCall.{AskedCall}
use Rattle.trial_run.specs.declared.touched.Touched.{Touched}
use Rattle.trial_run.specs.declared.touched.Touched.TheVariants.{Neither, Zones}
use Rattle.trial_run.specs.Answers.{led_with}
use Rattle.trial_run.specs.Peaks.{target_with}

-- the number of a zone that is local
abbrev pub local_number : List Command → List ℕ → Option ℕ
local_number commands name =
    if is_local commands name then Some (number_in (zones_of commands) name) else None

-- the number of a zone of which the tables say this, if it is local
abbrev pub number_if_local : ZoneView → Option ℕ
number_if_local view = if view.local then Some view.no else None

-- the zones of these numbers, if the route is a destination
abbrev pub touched_by : Route → ℕ → ℕ → Touched
touched_by (To destination) source target = Zones source target
touched_by (Refused refusal) source target = Neither

-- those that the call of an admission touches under commands, over endpoints whose zone is local
-- there
abbrev pub touched_among : List Command → List EndpointParts → AskedCall → Touched
touched_among commands kept asked =
    if is_local commands asked.zone
    then touched_by (led_with commands kept asked asked.digits)
    (number_in (zones_of commands) asked.zone)
    (number_in (zones_of commands) (target_with commands kept asked asked.digits))
    else Neither
