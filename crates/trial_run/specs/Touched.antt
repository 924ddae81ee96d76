-- The zones that calls touch, by their numbers.
use Rattle.std.specs.Prelude.{ℕ, ◌==◌, ◌||◌, Bool, false, List, Option, Some, None, slice_get}
use Rattle.trial_run.specs.declared.touched.Touched.{Touched}
use Rattle.trial_run.specs.declared.touched.Touched.TheVariants.{Neither, Zones}

-- whether a call touches the zone of a number
abbrev pub touches_zone : ℕ → Touched → Bool
touches_zone zone Neither = false
touches_zone zone (Zones source target) = (source == zone) || (target == zone)

abbrev pub touches_if : ℕ → Option Touched → Bool
touches_if zone None = false
touches_if zone (Some touched) = touches_zone zone touched

-- the same of the admission at a place
abbrev pub touching : List Touched → ℕ → ℕ → Bool
touching touched zone place = touches_if zone (slice_get touched place)
