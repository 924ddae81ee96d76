-- The running sums: what is kept for each owner and each zone, and what a change of one call makes
-- of it.
use Rattle.std.specs.Prelude.{◌≡◌, ◌≤◌, ◌<◌, ◌^◌, ℕ, ◌+◌, ◌-◌, Bool, true, List, ◌∷◌, count_by, Option, Some, None, IfSome, bytes_eq, if◌then◌else◌}
use Rattle.std.specs.Option.{unwrap_or, option_copied, option_to_list}
use Rattle.std.specs.Map.{lookup}
use Rattle.bandwidth.specs.declared.open_call.OpenCall.{OpenCall}
use Rattle.bandwidth.specs.declared.open_call.ZonesTouched.{ZonesTouched}
use Rattle.bandwidth.specs.declared.step.Step.{Step}
use Rattle.bandwidth.specs.declared.zone_uses.ZoneUse.{ZoneUse}
use Rattle.bandwidth.specs.Calls.{has_owner}
use Rattle.bandwidth.specs.Use.{is_interzone, touches, total_of, interzone_of, remote_of}

-- ---- the zones of a call
abbrev pub zones_in : ZonesTouched → List (List ℕ)
zones_in zones = zones.first.now ∷ option_to_list (option_copied zones.second)

-- ---- what is kept
-- how many calls the endpoint with this ID owns
abbrev pub count_owned : List OpenCall → List ℕ → ℕ
count_owned calls id = count_by (has_owner id) calls

-- how many calls touch a zone, and their sums
abbrev pub use_of : List OpenCall → List ℕ → ZoneUse
use_of calls zone = record {
  calls = count_by (touches zone) calls;
  total = total_of calls zone;
  interzone = interzone_of calls zone;
}

abbrev pub no_use : ZoneUse
no_use = record { calls = 0; total = 0; interzone = 0 }

abbrev pub Counts : Type 0
Counts = List (List ℕ × ℕ)

abbrev pub Uses : Type 0
Uses = List (List ℕ × ZoneUse)

-- what the maps have for an ID and for a zone
abbrev pub count_found : Counts → List ℕ → Option ℕ
count_found owners id = lookup (bytes_eq id) owners

abbrev pub use_found : Uses → List ℕ → Option ZoneUse
use_found zones zone = lookup (bytes_eq zone) zones

-- the count and the sums that this stands for: nothing if there is no entry
abbrev pub count_at : Counts → List ℕ → ℕ
count_at owners id = unwrap_or (count_found owners id) 0

abbrev pub use_at : Uses → List ℕ → ZoneUse
use_at zones zone = unwrap_or (use_found zones zone) no_use

-- each ID that has an entry owns a call, and each zone that has one is touched by a call
abbrev pub AllCounted : Counts → Type 0
AllCounted owners = (id : List ℕ) → IfSome (count_found owners id) (λ count. 0 < count)

abbrev pub AllUsed : Uses → Type 0
AllUsed zones = (zone : List ℕ) → IfSome (use_found zones zone) (λ used. 0 < used.calls)

-- a zone that no call touches has no sums
abbrev pub AreBare : Uses → Type 0
AreBare zones = (zone : List ℕ) → (use_at zones zone).calls ≡ 0 → use_at zones zone ≡ no_use

-- the running sums are those of the calls
pub record AreSumsOf (owners : Counts) (zones : Uses) (remote : ℕ) (calls : List OpenCall)
    : Type 0 where
  pub owned : (id : List ℕ) → count_at owners id ≡ count_owned calls id
  pub used : (zone : List ℕ) → use_at zones zone ≡ use_of calls zone
  pub remotely : remote ≡ remote_of calls

-- ---- a change of one call
-- a call counts once while it is open, and with its bandwidth
abbrev pub once : Option ℕ → ℕ
once None = 0
once (Some units) = 1

abbrev pub units_if_open : Option ℕ → ℕ
units_if_open None = 0
units_if_open (Some units) = units

-- a count and a sum after the step
abbrev pub count_after : Step → ℕ → ℕ
count_after step count = count - once step.before + once step.after

abbrev pub sum_after : Step → ℕ → ℕ
sum_after step sum = sum - units_if_open step.before + units_if_open step.after

-- what is used of a zone after the step of a call that touches it, by whether that call is between
-- two zones
abbrev pub use_after : Bool → Step → ZoneUse → ZoneUse
use_after between step sums = record {
  calls = count_after step sums.calls;
  total = sum_after step sums.total;
  interzone = if between then sum_after step sums.interzone else sums.interzone;
}

-- what a count and a sum have to hold before the step, and the room that they have
pub record MayCount (step : Step) (count : ℕ) : Type 0 where
  pub enough : once step.before ≤ count
  pub room : count + 1 < 2 ^ 64

pub record MaySum (step : Step) (sum : ℕ) : Type 0 where
  pub enough : units_if_open step.before ≤ sum
  pub room : sum + units_if_open step.after < 2 ^ 64

-- the same for what is used of a zone that the call touches
pub record MayUse (between : Bool) (step : Step) (sums : ZoneUse) : Type 0 where
  pub calls : MayCount step sums.calls
  pub total : MaySum step sums.total
  pub interzone : between ≡ true → MaySum step sums.interzone

-- each running sum in which the call counts may take the step
pub record MayPass (owners : Counts) (zones : Uses) (remote : ℕ) (call : OpenCall) (step : Step)
    : Type 0 where
  pub owner : MayCount step (count_at owners call.owner)
  pub zone : (zone : List ℕ) → touches zone call ≡ true
      → MayUse (is_interzone call) step (use_at zones zone)
  pub remotely : call.remote ≡ true → MaySum step remote

-- new has what the step leaves, for the owner and for the zones that the call touches
abbrev pub CountsPass : OpenCall → Step → Counts → Counts → Type 0
CountsPass call step old new =
    (id : List ℕ) → count_at new id
    ≡ (if has_owner id call then count_after step (count_at old id) else count_at old id)

abbrev pub UsesPass : OpenCall → Step → Uses → Uses → Type 0
UsesPass call step old new =
    (zone : List ℕ) → use_at new zone
    ≡ (if touches zone call then use_after (is_interzone call) step (use_at old zone)
    else use_at old zone)

-- the same for one zone alone, by whether the call is between two zones: it has an entry now
abbrev pub UsesPassAt : List ℕ → Bool → Step → Uses → Uses → Type 0
UsesPassAt at between step old new =
    (zone : List ℕ) → use_found new zone
    ≡ (if bytes_eq at zone then Some (use_after between step (use_at old zone))
    else use_found old zone)

-- the sum of the calls marked as remote after the step of a call
abbrev pub remote_after : OpenCall → Step → ℕ → ℕ
remote_after call step remote = if call.remote then sum_after step remote else remote
