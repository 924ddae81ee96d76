-- Zones by their numbers: two zones are one exactly if their numbers are, since no two zones of an
-- accepted configuration have the same name.
use Rattle.std.proofs.Common.{◌≡◌, ◌+◌, ◌==◌, ℕ, zero, suc, Bool, true, false, not, cond, ◌||◌, List, [], ◌∷◌, Option, Some, None, map, refl, sym, ap, subst, ◌∙◌, arith}
use Rattle.std.specs.Prelude.{◌&&◌, bytes_eq, find, option_map, option_and_then, slice_get, unwrap_or, if◌then◌else◌}
use Rattle.std.specs.List.{IsDistinct, AllByRecursion, position_or_len}
use Rattle.std.specs.Map.{keys_of}
use Rattle.std.proofs.lemmas.Bool.Decides.{same_from_decides, Decides-eqb}
use Rattle.std.proofs.lemmas.Cmp.{nat_list_eq_equiv}
use Rattle.std.proofs.lemmas.Option.{same_Some, slice_get-map}
use Rattle.std.proofs.lemmas.Slice.Eq.{bytes_eq-Decides}
use Rattle.gk_commands.specs.declared.commands.Command.{Command}
use Rattle.gk_commands.specs.declared.zones.ZoneKind.{ZoneKind}
use Rattle.gk_commands.specs.Accepted.{IsAccepted}
use Rattle.gk_commands.specs.Zones.{is_local, is_local_option, zones_of}
use Rattle.gk_commands.proofs.AcceptedLemmas.{names_differ}
use Rattle.compiler.specs.Zones.{number_in, view_of, view_of_name}
use Rattle.registry.specs.Endpoint.{EndpointParts}
use Rattle.rulings.specs.declared.routes.Route.{Route}
use Rattle.rulings.specs.declared.routes.Route.TheVariants.{To, Refused}
use Rattle.rulings.specs.Routing.{zone_named}
use Rattle.call_rows.specs.declared.rows.AskedCall.{AskedCall}
use Rattle.call_rows.specs.declared.rows.NumberedAdmission.{NumberedAdmission}
use Rattle.trial_run.specs.declared.report_rows.CandidateAnswer.TheVariants.{Led, CallerNotRegistered}
use Rattle.trial_run.specs.declared.touched.Touched.TheVariants.{Neither}
use Rattle.trial_run.specs.Answers.{candidate_among, led_with}
use Rattle.trial_run.specs.Numbers.{local_number, number_if_local, touched_among, touched_by}
use Rattle.trial_run.specs.Peaks.{target_with}
use Rattle.trial_run.specs.Peaks as Peaks
use Rattle.trial_run.specs.Touched.{touches_zone, touching}
use Rattle.trial_run.specs.Touched as Numbered

-- ---- positions
-- what is at the position of the first that passes
at_position : {X : Type 0} (p : X → Bool) (xs : List X)
    → slice_get xs (position_or_len p xs) ≡ find p xs
at_position p [] = refl
at_position p (x ∷ xs) = by (p x) (at_position p xs)
  where
    one_on : 1 + position_or_len p xs ≡ suc (position_or_len p xs)
    one_on = omega arith

    by : (t : Bool) → slice_get xs (position_or_len p xs) ≡ find p xs
        → slice_get (x ∷ xs) (cond (not t) (1 + position_or_len p xs) 0)
        ≡ cond t (Some x) (find p xs)
    by true h = refl
    by false h = ap (slice_get (x ∷ xs)) one_on ∙ h

-- what is found passes
found_passes : {X : Type 0} (p : X → Bool) (xs : List X) (y : X) → find p xs ≡ Some y
    → p y ≡ true
found_passes p [] y h = absurd (let no : ⊥ = cc in no)
found_passes p (x ∷ xs) y h = by (p x) refl h (λ h. found_passes p xs y h)
  where
    by : (t : Bool) → p x ≡ t → cond t (Some x) (find p xs) ≡ Some y
        → (find p xs ≡ Some y → p y ≡ true) → p y ≡ true
    by true e h rest = ap p (sym (same_Some x y h)) ∙ e
    by false e h rest = rest h

-- ---- names that differ
key_at : {V : Type 0} (P : List ℕ → Type 0) (es : List (List ℕ × V)) (n : ℕ) (z : List ℕ × V)
    → AllByRecursion P (keys_of es) → slice_get es n ≡ Some z → P z.0
key_at P [] n z all h = absurd (let no : ⊥ = cc in no)
key_at P (e ∷ es) zero z all h = subst (λ x. P x.0) (same_Some e z h) all.0
key_at P (e ∷ es) (suc n) z all h = key_at P es n z all.1 h

-- the number of the name at a place is that place
number_of_place : {V : Type 0} (es : List (List ℕ × V)) (n : ℕ) (z : List ℕ × V)
    → IsDistinct bytes_eq (keys_of es) → slice_get es n ≡ Some z
    → position_or_len (λ e. bytes_eq z.0 e.0) es ≡ n
unfolding IsDistinct
number_of_place [] n z distinct h = absurd (let no : ⊥ = cc in no)
number_of_place (e ∷ es) zero z distinct h =
    let same : bytes_eq z.0 e.0 ≡ true =
    (bytes_eq-Decides z.0 e.0).1 (sym (ap (λ x. x.0) (same_Some e z h))) in
    ap (λ t. cond (not t) (1 + position_or_len (λ e. bytes_eq z.0 e.0) es) 0) same
number_of_place (e ∷ es) (suc n) z distinct h =
    let apart : bytes_eq z.0 e.0 ≡ false =
    nat_list_eq_equiv.symm z.0 e.0 ∙ key_at (λ y. bytes_eq e.0 y ≡ false) es n z distinct.0 h in
    let rest = number_of_place es n z distinct.1 h in
    let more : 1 + position_or_len (λ e. bytes_eq z.0 e.0) es ≡ suc n = omega (arith, rest) in
    ap (λ t. cond (not t) (1 + position_or_len (λ e. bytes_eq z.0 e.0) es) 0) apart ∙ more

-- a name is that of the zone at a place exactly if its number is the place
pub same_zone : (zones : List (List ℕ × ZoneKind)) (k : ℕ) (z : List ℕ × ZoneKind)
    → IsDistinct bytes_eq (keys_of zones) → slice_get zones k ≡ Some z → (name : List ℕ)
    → (number_in zones name == k) ≡ bytes_eq z.0 name
same_zone zones k z distinct at name =
    let numbers = Decides-eqb (number_in zones name) k in
    let names = bytes_eq-Decides z.0 name in
    same_from_decides (number_in zones name == k) (bytes_eq z.0 name)
    (λ e. there (numbers.0 e), λ is. numbers.1 (back is)) names
  where
    there : number_in zones name ≡ k → z.0 ≡ name
    there e =
        let found : find (λ zone. bytes_eq name zone.0) zones ≡ Some z =
        sym (at_position (λ zone. bytes_eq name zone.0) zones) ∙ ap (slice_get zones) e ∙ at in
        let test : bytes_eq name z.0 ≡ true =
        found_passes (λ (zone : List ℕ × ZoneKind). bytes_eq name zone.0) zones z found in
        sym ((bytes_eq-Decides name z.0).0 test)

    back : z.0 ≡ name → number_in zones name ≡ k
    back is = subst (λ n. number_in zones n ≡ k) is (number_of_place zones k z distinct at)

-- ---- what the code finds
-- the number of a zone that is looked up, if it is local
pub number_of_view : (commands : List Command) (name : List ℕ)
    → option_and_then number_if_local
    (view_of_name commands name) ≡ local_number commands name
number_of_view commands name =
    ap (λ o. option_and_then number_if_local (option_map (view_of n) o))
    (at_position (λ zone. bytes_eq name zone.0) (zones_of commands))
    ∙ by (find (λ zone. bytes_eq name zone.0) (zones_of commands))
  where
    n : ℕ
    n = number_in (zones_of commands) name

    by : (o : Option (List ℕ × ZoneKind)) → option_and_then number_if_local (option_map (view_of
        n) o)
        ≡ (if is_local_option (option_map (λ zone. zone.1) o) then Some n else None)
    by None = refl
    by (Some z) = refl

-- what is known of a caller whose zone has a number
local_parts : (commands : List Command) (name : List ℕ) (source : ℕ)
    → local_number commands name ≡ Some source
    → (is_local commands name ≡ true) × (number_in (zones_of commands) name ≡ source)
local_parts commands name source h = by (is_local commands name) h
  where
    by : (t : Bool)
        → (if t then Some (number_in (zones_of commands) name) else None) ≡ Some source
        → (t ≡ true) × (number_in (zones_of commands) name ≡ source)
    by true h = (refl, same_Some (number_in (zones_of commands) name) source h)
    by false h = absurd (let no : ⊥ = cc in no)

-- the number of a target zone
pub number_of_target : (commands : List Command) (caller target : List ℕ) (zone : Option ℕ)
    → IsAccepted commands → zone_named commands caller zone ≡ Some target
    → unwrap_or zone (number_in (zones_of commands) caller)
    ≡ number_in (zones_of commands) target
number_of_target commands caller target None accepted h =
    ap (number_in (zones_of commands)) (same_Some caller target h)
number_of_target commands caller target (Some number) accepted h =
    by (slice_get (zones_of commands) number) refl h
  where
    by : (o : Option (List ℕ × ZoneKind)) → slice_get (zones_of commands) number ≡ o
        → option_map (λ zone. zone.0) o ≡ Some target
        → number ≡ number_in (zones_of commands) target
    by None at h = absurd (let no : ⊥ = cc in no)
    by (Some z) at h =
        subst (λ n. number ≡ number_in (zones_of commands) n) (same_Some z.0 target h)
        (sym (number_of_place (zones_of commands) number z (names_differ commands accepted) at))

-- the answer, and the zones that are touched, if the zone is local
pub led_answer : (commands : List Command) (kept : List EndpointParts) (asked : AskedCall)
    (digits : Option (List ℕ)) (source : ℕ) (route : Route)
    → local_number commands asked.zone ≡ Some source
    → asked.digits ≡ digits → route ≡ led_with commands kept asked digits
    → Led route ≡ candidate_among commands kept asked
led_answer commands kept asked digits source route local dialled is =
    let here = (local_parts commands asked.zone source local).0 in
    ap (λ r. Led r) (is ∙ ap (led_with commands kept asked) (sym dialled))
    ∙ sym (ap (λ t. if t then Led (led_with commands kept asked asked.digits)
    else CallerNotRegistered) here)

pub target_number : (commands : List Command) (kept : List EndpointParts) (asked : AskedCall)
    (digits : Option (List ℕ)) (source : ℕ) (zone : Option ℕ) (route : Route)
    → local_number commands asked.zone ≡ Some source
    → asked.digits ≡ digits → route ≡ led_with commands kept asked digits
    → unwrap_or zone (number_in (zones_of commands) asked.zone)
    ≡ number_in (zones_of commands) (target_with commands kept asked digits)
    → touched_by route source (unwrap_or zone source) ≡ touched_among commands kept asked
target_number commands kept asked digits source zone route local dialled is numbered =
    let parts = local_parts commands asked.zone source local in
    let led = led_with commands kept asked in
    let target = target_with commands kept asked in
    let zones = zones_of commands in
    let caller = number_in zones asked.zone in
    ap (λ r. touched_by r source (unwrap_or zone source)) is
    ∙ ap (λ n. touched_by (led digits) n (unwrap_or zone n)) (sym parts.1)
    ∙ ap (λ n. touched_by (led digits) caller n) numbered
    ∙ ap (λ d. touched_by (led d) caller (number_in zones (target d))) (sym dialled)
    ∙ sym (ap (λ t. if t then touched_by (led asked.digits) caller
    (number_in zones (target asked.digits)) else Neither) parts.0)

-- if it is not, the answer is that the caller is not registered, and no zone is touched
pub unregistered_row : (commands : List Command) (kept : List EndpointParts)
    (asked : AskedCall) → local_number commands asked.zone ≡ None
    → (candidate_among commands kept asked ≡ CallerNotRegistered)
    × (touched_among commands kept asked ≡ Neither)
unregistered_row commands kept asked h =
    by (is_local commands asked.zone) (led_with commands kept asked asked.digits)
    (number_in (zones_of commands) asked.zone)
    (number_in (zones_of commands) (target_with commands kept asked asked.digits)) h
  where
    by : (t : Bool) (route : Route) (source target : ℕ)
        → (if t then Some source else None) ≡ None
        → ((if t then Led route else CallerNotRegistered) ≡ CallerNotRegistered)
        × ((if t then touched_by route source target else Neither) ≡ Neither)
    by true route source target h = absurd (let no : ⊥ = cc in no)
    by false route source target h = (refl, refl)

-- ---- the calls that touch a zone
touches_alike : (commands : List Command) (kept : List EndpointParts) (asked : AskedCall) (k : ℕ)
    (z : List ℕ × ZoneKind) → IsAccepted commands → slice_get (zones_of commands) k ≡ Some z
    → touches_zone k (touched_among commands kept asked)
    ≡ Peaks.touches_among commands kept z.0 asked
touches_alike commands kept asked k z accepted at =
    by (is_local commands asked.zone) (led_with commands kept asked asked.digits)
  where
    zones : List (List ℕ × ZoneKind)
    zones = zones_of commands

    target : List ℕ
    target = target_with commands kept asked asked.digits

    same : (name : List ℕ) → (number_in zones name == k) ≡ bytes_eq z.0 name
    same name = same_zone zones k z (names_differ commands accepted) at name

    by : (t : Bool) (route : Route)
        → touches_zone k (if t then touched_by route (number_in zones asked.zone)
        (number_in zones target) else Neither)
        ≡ (Peaks.is_destination (if t then Led route else CallerNotRegistered)
        && (bytes_eq z.0 asked.zone || bytes_eq z.0 target))
    by true (To destination) =
        ap (λ t. t || (number_in zones target == k)) (same asked.zone)
        ∙ ap (λ t. bytes_eq z.0 asked.zone || t) (same target)
    by true (Refused refusal) = refl
    by false route = refl

pub touching_alike : (commands : List Command) (kept : List EndpointParts)
    (admissions : List NumberedAdmission) (k : ℕ) (z : List ℕ × ZoneKind) → IsAccepted commands
    → slice_get (zones_of commands) k ≡ Some z → (place : ℕ)
    → touching (map (λ a. touched_among commands kept a.asked) admissions) k place
    ≡ Peaks.touches_at commands kept z.0 admissions place
touching_alike commands kept admissions k z accepted at place =
    ap (λ o. Numbered.touches_if k o)
    (slice_get-map (λ (a : NumberedAdmission). touched_among commands kept a.asked) admissions
    place)
    ∙ by (slice_get admissions place)
  where
    by : (o : Option NumberedAdmission)
        → Numbered.touches_if k
        (option_map (λ (a : NumberedAdmission). touched_among commands kept a.asked) o)
        ≡ Peaks.touches_if (Peaks.touches_among commands kept z.0) o
    by None = refl
    by (Some a) = touches_alike commands kept a.asked k z accepted at
