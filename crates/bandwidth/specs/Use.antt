-- Bandwidth in use, in units of 100 bit/s for both directions together (H.225.0): the sums over the
-- open calls.
use Rattle.std.specs.Prelude.{ℕ, Bool, true, not, ◌&&◌, List, [], ◌∷◌, filter, Option, Some, None, bytes_eq, if◌then◌else◌}
use Rattle.std.specs.List.{list_any, sum_by}
use Rattle.bandwidth.specs.declared.open_call.OpenCall.{OpenCall}

-- ---- the zones of a call
-- the zones of a call from this zone, the source first, each once; a call that comes from a zone of
-- another gatekeeper has no source
abbrev pub zones_between : Option (List ℕ) → List ℕ → List (List ℕ)
zones_between None target = target ∷ []
zones_between (Some source) target =
    if bytes_eq source target then source ∷ [] else source ∷ target ∷ []

-- the zones that a call touches
abbrev pub zones_touched : OpenCall → List (List ℕ)
zones_touched call = zones_between call.source call.target

-- whether a call from this zone is between two zones; an absent source equals no zone
abbrev pub is_between : Option (List ℕ) → List ℕ → Bool
is_between None target = true
is_between (Some source) target = not (bytes_eq source target)

-- whether a call is between two zones
abbrev pub is_interzone : OpenCall → Bool
is_interzone call = is_between call.source call.target

-- whether a call touches a zone
abbrev pub touches : List ℕ → OpenCall → Bool
touches zone call = list_any (bytes_eq zone) (zones_touched call)

-- ---- sums
abbrev pub units_of : List OpenCall → ℕ
units_of calls = sum_by (λ call. call.units) calls

-- of the calls that touch the zone, each once
abbrev pub total_of : List OpenCall → List ℕ → ℕ
total_of calls zone = units_of (filter (touches zone) calls)

-- of those among them that are between two zones
abbrev pub interzone_of : List OpenCall → List ℕ → ℕ
interzone_of calls zone = units_of (filter (λ call. touches zone call && is_interzone call) calls)

-- of the calls to other gatekeepers, whose target was a remote zone when they were admitted, and of
-- those from other gatekeepers
abbrev pub remote_of : List OpenCall → ℕ
remote_of calls = units_of (filter (λ call. call.remote) calls)
