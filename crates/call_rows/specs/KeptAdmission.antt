-- Admissions in few bytes: what each means.
use Rattle.std.specs.Prelude.{◌≡◌, ◌≤◌, ℕ, Bool, true, false, List, length, map, filter_map, slice_get, Option, Some, None, nat_le, not, ◌&&◌}
use Rattle.rulings.specs.declared.routes.Destination.{Destination}
use Rattle.rulings.specs.declared.routes.Destination.TheVariants as destinations
use Rattle.rulings.specs.declared.routes.Route.{Route}
use Rattle.rulings.specs.declared.routes.Route.TheVariants as routes
use Rattle.rulings.specs.Lent.{destination_meant}
use Rattle.call_rows.specs.declared.rows.NumberedAdmission.{NumberedAdmission}
use Rattle.call_rows.specs.declared.kept_admission.ShortAnswer.{ShortAnswer}
use Rattle.call_rows.specs.declared.kept_admission.ShortAsked.{ShortAsked}
use Rattle.call_rows.specs.declared.kept_admission.KeptAdmission.{KeptAdmission}
use Rattle.call_rows.specs.declared.kept_admission.KeptAdmission.TheVariants.{Granted, OverLimit, Refused, Answered, Aside}

-- an admission that asked this, by what came of it
abbrev pub asked_meant : ShortAsked → (granted : Bool) → Route → NumberedAdmission
asked_meant a granted route = record {
  number = a.number;
  asked = record {
    call = a.call;
    zone = a.zone;
    digits = Some a.digits;
    units = a.units;
    granted = granted;
    route = route;
  };
}

-- the same of an answer
abbrev pub answer_meant : ShortAnswer → (granted : Bool) → Route → NumberedAdmission
answer_meant a granted route = record {
  number = a.number;
  asked = record {
    call = a.call;
    zone = a.zone;
    digits = None;
    units = a.units;
    granted = granted;
    route = route;
  };
}

-- an admission in few bytes, beside those that stand whole
abbrev pub admission_meant : List NumberedAdmission → KeptAdmission → Option NumberedAdmission
admission_meant aside (Granted kind address asked name) =
    Some (asked_meant asked true (routes.To (destination_meant kind name address)))
admission_meant aside (OverLimit kind address asked name) =
    Some (asked_meant asked false (routes.To (destination_meant kind name address)))
admission_meant aside (Refused refusal asked) =
    Some (asked_meant asked false (routes.Refused refusal))
admission_meant aside (Answered granted kind address asked name) =
    Some (answer_meant asked granted (routes.To (destination_meant kind name address)))
admission_meant aside (Aside place) = slice_get aside place

-- ---- which need few bytes
abbrev pub destination_name : Destination → List ℕ
destination_name (destinations.Gateway id address) = id
destination_name (destinations.Terminal id address) = id
destination_name (destinations.Zone name address) = name

abbrev pub is_short_route : (granted : Bool) → Route → Bool
is_short_route granted (routes.To destination) = nat_le (length (destination_name destination)) 19
is_short_route granted (routes.Refused refusal) = not granted

-- an answer leads to an endpoint
abbrev pub is_short_answer : Route → Bool
is_short_answer (routes.To destination) = nat_le (length (destination_name destination)) 19
is_short_answer (routes.Refused refusal) = false

abbrev pub is_short_by : Option (List ℕ) → (granted : Bool) → Route → Bool
is_short_by None granted route = is_short_answer route
is_short_by (Some digits) granted route = is_short_route granted route

-- the names in it are short
abbrev pub is_short : NumberedAdmission → Bool
is_short a =
    nat_le (length a.asked.zone) 19 && is_short_by a.asked.digits a.asked.granted a.asked.route

-- ---- a list of them
-- the admissions, in order
abbrev pub admissions_told : List KeptAdmission → List NumberedAdmission → List NumberedAdmission
admissions_told kept aside = filter_map (admission_meant aside) kept

-- they mean these, and no more stand aside
pub record AreHeld (kept : List KeptAdmission) (aside admissions : List NumberedAdmission)
    : Type 0 where
  pub meant : map (admission_meant aside) kept ≡ map Some admissions
  pub few_aside : length aside ≤ length kept
