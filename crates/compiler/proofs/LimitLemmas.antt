-- Bandwidth limits of zones by their numbers.
use Rattle.std.proofs.Common.{◌≡◌, ℕ, zero, suc, ◌+◌, ◌<◌, ◌≤◌, nat_eq, nat_lt, ◌&&◌, Bool, true, false, cond, List, [], ◌∷◌, ◌++◌, length, take, drop, set, get_or, slice_get, replicate, refl, sym, ap, ◌∙◌, arith, true≢false, eq-eqb, eqb-true}
use Rattle.std.specs.Prelude.{Option, Some, None, option_map, unwrap_or, bytes_eq}
use Rattle.std.specs.Option.{option_or, option_map_or}
use Rattle.std.specs.List.{filter_map}
use Rattle.std.specs.Cmp.Lexicographic.{same_text}
use Rattle.std.proofs.Math.Seq.{take-append_seam}
use Rattle.std.proofs.lemmas.Cmp.{nat_list_eq_equiv}
use Rattle.std.proofs.lemmas.Bool.Decides.{nat_tests}
use Rattle.std.proofs.lemmas.List.Folds.{find_at}
use Rattle.std.proofs.lemmas.Option.{slice_get-get_or, slice_get_past, unwrap_or-slice_get}
use Rattle.gk_terms.proofs.ChoiceLemmas.{find_passes}
use Rattle.gk_commands.specs.declared.commands.Command.{Command}
use Rattle.gk_commands.specs.declared.commands.Command.TheVariants.{ZoneLocal, ZoneRemote, ZonePrefix, GwTypePrefix, RejectUnknownPrefix, BandwidthDefault, BandwidthZone, BandwidthRemote}
use Rattle.gk_commands.specs.declared.commands.LimitKind.{LimitKind}
use Rattle.gk_commands.specs.declared.commands.LimitKind.TheVariants.{Session, Total, Interzone}
use Rattle.gk_commands.specs.declared.zones.ZoneKind.{ZoneKind}
use Rattle.gk_commands.specs.declared.zones.ZoneKind.TheVariants.{Local, Remote}
use Rattle.gk_commands.specs.Zones.{zones_of, zone_of, is_local_option}
use Rattle.compiler.specs.declared.limits.ZoneLimits.{ZoneLimits}
use Rattle.compiler.specs.Last.{last_in}
use Rattle.compiler.specs.Limit.{same_kind, default_size, zone_size, units_of_kbps, size_for, limit_of, limits_of}
use Rattle.compiler.specs.Zones.{number_in}
use Rattle.compiler.specs.TablesIndex.{Zones, kind_at, limits_by, no_limits, limit_in, limit_if, limits_or, defaults_said, default_limits_of, limits_said, own_limits_of, named_limits, kept_limits, AreOwnLimits, limits_if_local, limits_with, AreLimits}
use Rattle.compiler.proofs.PickLemmas.{kind_of_number}
use Rattle.compiler.proofs.RowLemmas.{none_past}
use Rattle.compiler.proofs.StepLemmas.{last_in-more}

-- ---- limits of three kinds
-- the same limit of each kind
limits_alike : (f g : LimitKind → Option ℕ) → ((kind : LimitKind) → f kind ≡ g kind)
    → limits_by f ≡ limits_by g
limits_alike f g same = rw (same Session, same Total, same Interzone) refl

units_or : (size other : Option ℕ)
    → option_map units_of_kbps (option_or size other)
    ≡ option_or (option_map units_of_kbps size) (option_map units_of_kbps other)
units_or None other = refl
units_or (Some size) other = refl

-- ---- one more command
-- the limits of commands by their sizes, with those of one more
module _ (said : LimitKind → Command → Option ℕ) (commands : List Command) (command : Command) where
  limits_more :
      limits_by (λ kind.
      option_map units_of_kbps (last_in (filter_map (said kind) (commands ++ command ∷ []))))
      ≡ limits_or (limits_by (λ kind. option_map units_of_kbps (said kind command)))
      (limits_by (λ kind. option_map units_of_kbps (last_in (filter_map (said kind) commands))))
  limits_more = limits_alike _ _ (λ kind.
      ap (option_map units_of_kbps) (last_in-more (said kind) commands command)
      ∙ units_or (said kind command) (last_in (filter_map (said kind) commands)))

pub defaults_more : (commands : List Command) (command : Command)
    → default_limits_of (commands ++ command ∷ [])
    ≡ limits_or (defaults_said command) (default_limits_of commands)
defaults_more commands command = limits_more default_size commands command

own_more : (commands : List Command) (command : Command) (name : List ℕ)
    → own_limits_of (commands ++ command ∷ []) name
    ≡ limits_or (limits_said name command) (own_limits_of commands name)
own_more commands command name = limits_more (λ kind. zone_size kind name) commands command

-- none before the first command
pub own_limits_begin : (zones : Zones) (limits : List ZoneLimits)
    → limits ≡ replicate (length zones) no_limits
    → AreOwnLimits zones [] limits
own_limits_begin zones limits h name =
    ap (λ all. slice_get all (number_in zones name)) h ∙ slice_get-replicate zones _
  where
    slice_get-replicate : (rest : Zones) (number : ℕ)
        → slice_get (replicate (length rest) no_limits) number
        ≡ option_map (λ kind. own_limits_of [] name) (kind_at rest number)
    slice_get-replicate [] number = refl
    slice_get-replicate (zone ∷ rest) zero = refl
    slice_get-replicate (zone ∷ rest) (suc number) = slice_get-replicate rest number

-- a vector after a call that wrote it as a slice of the same length
pub written_back : {X : Type 0} (new old : List X) (count : ℕ) → length new ≡ count
    → take count (new ++ drop (length new) old) ≡ new
written_back new old count h =
    ap (λ n. take n (new ++ drop (length new) old)) (sym h)
    ∙ take-append_seam new (drop (length new) old)

-- with what one more command says
pub own_limits_more : (zones : Zones) (commands : List Command) (command : Command)
    (old new : List ZoneLimits)
    → AreOwnLimits zones commands old
    → ((name : List ℕ) → kept_limits zones new name
    ≡ option_map (limits_or (limits_said name command)) (kept_limits zones old name))
    → AreOwnLimits zones (commands ++ command ∷ []) new
own_limits_more zones commands command old new h adds name =
    adds name
    ∙ ap (option_map (limits_or (limits_said name command))) (h name)
    ∙ by (kind_at zones (number_in zones name))
  where
    by : (o : Option ZoneKind)
        → option_map (limits_or (limits_said name command))
        (option_map (λ kind. own_limits_of commands name) o)
        ≡ option_map (λ kind. own_limits_of (commands ++ command ∷ []) name) o
    by None = refl
    by (Some kind) = ap (λ limits. Some limits) (sym (own_more commands command name))

-- ---- the zone that a command names
-- a command that names a zone says nothing of another
said_of_named : (command : Command) (zone : List ℕ) (said : ZoneLimits) (name : List ℕ)
    → named_limits command ≡ Some (zone, said)
    → limits_said name command ≡ cond (bytes_eq zone name) said no_limits
said_of_named (BandwidthZone kind named size) zone said name h =
    by kind (bytes_eq named name)
    ∙ ap (λ (o : Option (List ℕ × ZoneLimits)). option_map_or
    (λ all. cond (bytes_eq all.0 name) all.1 no_limits) o no_limits) h
  where
    by : (kind : LimitKind) (t : Bool)
        → limits_by (λ k. option_map units_of_kbps (cond (same_kind kind k && t) (Some size) None))
        ≡ cond t (limits_by (limit_if kind (units_of_kbps size))) no_limits
    by Session true = refl
    by Session false = refl
    by Total true = refl
    by Total false = refl
    by Interzone true = refl
    by Interzone false = refl
said_of_named (ZoneLocal named domain address) zone said name h = cc
said_of_named (ZoneRemote named domain address cost priority) zone said name h = cc
said_of_named (ZonePrefix named pattern gateways) zone said name h = cc
said_of_named (GwTypePrefix prefix hopoffs is_default) zone said name h = cc
said_of_named RejectUnknownPrefix zone said name h = cc
said_of_named (BandwidthDefault kind size) zone said name h = cc
said_of_named (BandwidthRemote size) zone said name h = cc

limits_or_none : (o : Option ZoneLimits) → o ≡ option_map (limits_or no_limits) o
limits_or_none None = refl
limits_or_none (Some limits) = refl

-- a number that is in range is that of one name
name_of_number : (zones : Zones) (name other : List ℕ)
    → number_in zones name < length zones
    → number_in zones name ≡ number_in zones other
    → name ≡ other
name_of_number zones name other within same =
    by (slice_get zones (number_in zones name)) refl
  where
    by : (o : Option (List ℕ × ZoneKind)) → slice_get zones (number_in zones name) ≡ o
        → name ≡ other
    by None e = absurd (none_past zones (number_in zones name) within e)
    by (Some zone) e =
        let mine : name ≡ zone.0 = same_text name zone.0
        (sym (find_passes (λ z. bytes_eq name z.0) zones zone
        (find_at (λ z. bytes_eq name z.0) zones ∙ e))) in
        let theirs : other ≡ zone.0 = same_text other zone.0
        (sym (find_passes (λ z. bytes_eq other z.0) zones zone
        (find_at (λ z. bytes_eq other z.0) zones ∙ ap (slice_get zones) (sym same) ∙ e))) in
        mine ∙ sym theirs

-- a write at one place leaves another
slice_get-set_other : {X : Type 0} (xs : List X) (i j : ℕ) (x : X) → (j ≡ i → ⊥)
    → slice_get (set xs i x) j ≡ slice_get xs j
slice_get-set_other [] zero j x h = refl
slice_get-set_other [] (suc i) j x h = refl
slice_get-set_other (y ∷ ys) zero zero x h = absurd (h refl)
slice_get-set_other (y ∷ ys) zero (suc j) x h = refl
slice_get-set_other (y ∷ ys) (suc i) zero x h = refl
slice_get-set_other (y ∷ ys) (suc i) (suc j) x h =
    slice_get-set_other ys i j x (λ e. h (ap suc e))

-- and is there
slice_get-set_same : {X : Type 0} (xs : List X) (i : ℕ) (x : X) → i < length xs
    → slice_get (set xs i x) i ≡ Some x
slice_get-set_same [] i x h = absurd (omega arith)
slice_get-set_same (y ∷ ys) zero x h = refl
slice_get-set_same (y ∷ ys) (suc i) x h =
    let rest : i < length ys = omega arith in slice_get-set_same ys i x rest

-- a command that names a zone changes that zone alone
module _ (zones : Zones) (limits : List ZoneLimits) (command : Command)
    (named : List ℕ × ZoneLimits) (place : ℕ) (names : named_limits command ≡ Some named)
    (numbered : place ≡ number_in zones named.0) (each : length limits ≡ length zones) where
  other_zone : (name : List ℕ) → bytes_eq named.0 name ≡ false
      → kept_limits zones limits name
      ≡ option_map (limits_or (limits_said name command)) (kept_limits zones limits name)
  other_zone name e =
      limits_or_none (kept_limits zones limits name)
      ∙ ap (λ all. option_map (limits_or all) (kept_limits zones limits name))
      (sym (said_of_named command named.0 named.1 name names
      ∙ ap (λ t. cond t named.1 no_limits) e))

  pub limits_set : (value : ZoneLimits) → place < length limits
      → value ≡ limits_or named.1 (get_or limits place no_limits)
      → (name : List ℕ) → kept_limits zones (set limits place value) name
      ≡ option_map (limits_or (limits_said name command)) (kept_limits zones limits name)
  limits_set value within is name = by (bytes_eq named.0 name) refl
    where
      by : (t : Bool) → bytes_eq named.0 name ≡ t
          → kept_limits zones (set limits place value) name
          ≡ option_map (limits_or (limits_said name command)) (kept_limits zones limits name)
      by true e =
          let same : named.0 ≡ name = same_text named.0 name (sym e) in
          let here : number_in zones name ≡ place =
          ap (number_in zones) (sym same) ∙ sym numbered in
          let says : limits_said name command ≡ named.1 =
          said_of_named command named.0 named.1 name names
          ∙ ap (λ t. cond t named.1 no_limits) e in
          ap (slice_get (set limits place value)) here
          ∙ slice_get-set_same limits place value within
          ∙ ap (λ all. Some all) is
          ∙ ap (option_map (limits_or named.1))
          (sym (slice_get-get_or limits place no_limits within) ∙ ap (slice_get limits) (sym here))
          ∙ ap (λ all. option_map (limits_or all) (kept_limits zones limits name)) (sym says)
      by false e =
          let inside : number_in zones named.0 < length zones =
          omega (arith, numbered, each, within) in
          slice_get-set_other limits place (number_in zones name) value
          (λ one. true≢false (sym (nat_list_eq_equiv.refl named.0)
          ∙ ap (bytes_eq named.0)
          (name_of_number zones named.0 name inside (sym numbered ∙ sym one))
          ∙ e))
          ∙ other_zone name e

  pub nothing_set : length limits ≤ place
      → (name : List ℕ) → kept_limits zones limits name
      ≡ option_map (limits_or (limits_said name command)) (kept_limits zones limits name)
  nothing_set past name = by (bytes_eq named.0 name) refl
    where
      by : (t : Bool) → bytes_eq named.0 name ≡ t
          → kept_limits zones limits name
          ≡ option_map (limits_or (limits_said name command)) (kept_limits zones limits name)
      by true e =
          let same : named.0 ≡ name = same_text named.0 name (sym e) in
          let none : kept_limits zones limits name ≡ None =
          ap (slice_get limits) (ap (number_in zones) (sym same) ∙ sym numbered)
          ∙ slice_get_past limits place past in
          none ∙ ap (option_map (limits_or (limits_said name command))) (sym none)
      by false e = other_zone name e

-- ---- the defaults
below_other : (k n : ℕ) → k < n + 1 → (k ≡ n → ⊥) → k < n
below_other k n below other = omega (arith, other)

-- one more zone with the defaults
pub default_set : (zones : Zones) (defaults : ZoneLimits) (own limits : List ZoneLimits)
    (place : ℕ) (zone : List ℕ × ZoneKind) (value : ZoneLimits)
    → slice_get zones place ≡ Some zone
    → place < length limits
    → value ≡ limits_if_local zone.1 (limits_or (get_or limits place no_limits) defaults)
    → ((k : ℕ) → k < place → slice_get limits k ≡ limits_with zones defaults own k)
    → ((k : ℕ) → place ≤ k → slice_get limits k ≡ slice_get own k)
    → ((k : ℕ) → k < place + 1
    → slice_get (set limits place value) k ≡ limits_with zones defaults own k)
    × ((k : ℕ) → place + 1 ≤ k → slice_get (set limits place value) k ≡ slice_get own k)
default_set zones defaults own limits place zone value at within is before after = (
  (λ k below. by k (nat_eq k place) refl below),
  (λ k past. slice_get-set_other limits place k value (λ same. absurd (omega arith))
      ∙ after k (omega arith)),
)
  where
    by : (k : ℕ) (t : Bool) → nat_eq k place ≡ t → k < place + 1
        → slice_get (set limits place value) k ≡ limits_with zones defaults own k
    by k true e below =
        let same : k ≡ place = eqb-true k place e in
        ap (slice_get (set limits place value)) same
        ∙ slice_get-set_same limits place value within
        ∙ ap (λ all. Some all) is
        ∙ ap (λ all. Some (limits_if_local zone.1 (limits_or all defaults)))
        (sym (unwrap_or-slice_get limits place no_limits)
        ∙ ap (λ o. unwrap_or o no_limits) (after place (omega arith)))
        ∙ ap (λ o. option_map (λ kind. limits_if_local kind
        (limits_or (unwrap_or (slice_get own place) no_limits) defaults))
        (option_map (λ z. z.1) o)) (sym at)
        ∙ ap (limits_with zones defaults own) (sym same)
    by k false e below =
        let other : k ≡ place → ⊥ = λ same. true≢false (sym (eq-eqb k place same) ∙ e) in
        slice_get-set_other limits place k value other
        ∙ before k (below_other k place below other)

-- past the last zone there is nothing
pub defaults_end : (zones : Zones) (defaults : ZoneLimits) (own limits : List ZoneLimits)
    (end : ℕ) → length own ≡ length zones → length own ≤ end
    → ((k : ℕ) → k < end → slice_get limits k ≡ limits_with zones defaults own k)
    → ((k : ℕ) → end ≤ k → slice_get limits k ≡ slice_get own k)
    → (k : ℕ) → slice_get limits k ≡ limits_with zones defaults own k
defaults_end zones defaults own limits end each all before after k = by (nat_lt k end) refl
  where
    by : (t : Bool) → nat_lt k end ≡ t → slice_get limits k ≡ limits_with zones defaults own k
    by true e = let below : k < end = grind (arith, nat_tests) in before k below
    by false e =
        let past : end ≤ k = grind (arith, nat_tests) in
        after k past ∙ slice_get_past own k (omega arith)
        ∙ ap (λ o. option_map (λ kind. limits_if_local kind
        (limits_or (unwrap_or (slice_get own k) no_limits) defaults)) (option_map (λ z. z.1) o))
        (sym (slice_get_past zones k (omega arith)))

-- ---- the limits of a zone
-- its own limits over the defaults
pub limits_over : (zones : Zones) (commands : List Command) (own limits : List ZoneLimits)
    → AreOwnLimits zones commands own
    → ((place : ℕ) → slice_get limits place
    ≡ limits_with zones (default_limits_of commands) own place)
    → AreLimits zones commands limits
limits_over zones commands own limits h all name =
    all (number_in zones name)
    ∙ ap (λ o. option_map (λ kind. limits_if_local kind
    (limits_or (unwrap_or o no_limits) (default_limits_of commands)))
    (kind_at zones (number_in zones name))) (h name)
    ∙ by (kind_at zones (number_in zones name))
  where
    by : (o : Option ZoneKind)
        → option_map (λ kind. limits_if_local kind (limits_or
        (unwrap_or (option_map (λ kind. own_limits_of commands name) o) no_limits)
        (default_limits_of commands))) o
        ≡ option_map (λ kind. limits_if_local kind
        (limits_or (own_limits_of commands name) (default_limits_of commands))) o
    by None = refl
    by (Some kind) = refl

pub limits_found : (commands : List Command) (zones : Zones) (limits : List ZoneLimits)
    (name : List ℕ) → zones ≡ zones_of commands → AreLimits zones commands limits
    → unwrap_or (kept_limits zones limits name) no_limits ≡ limits_of commands name
limits_found commands zones limits name is h =
    ap (λ o. unwrap_or o no_limits) (h name
    ∙ ap (λ (all : Zones). option_map (λ kind. limits_if_local kind
    (limits_or (own_limits_of commands name) (default_limits_of commands)))
    (kind_at all (number_in all name))) is)
    ∙ ap (λ o. unwrap_or (option_map (λ kind. limits_if_local kind
    (limits_or (own_limits_of commands name) (default_limits_of commands))) o) no_limits)
    (kind_of_number commands name)
    ∙ by (zone_of commands name)
  where
    by : (o : Option ZoneKind)
        → unwrap_or (option_map (λ kind. limits_if_local kind
        (limits_or (own_limits_of commands name) (default_limits_of commands))) o) no_limits
        ≡ limits_by (λ kind.
        cond (is_local_option o) (option_map units_of_kbps (size_for commands kind name)) None)
    by None = refl
    by (Some (Remote address cost priority)) = refl
    by (Some Local) = limits_alike _ _ (λ kind. sym (units_or
        (last_in (filter_map (zone_size kind name) commands))
        (last_in (filter_map (default_size kind) commands))))

-- one of the limits of a zone
pub limit_of_kind : (commands : List Command) (kind : LimitKind) (name : List ℕ)
    → limit_in (limits_of commands name) kind ≡ limit_of commands kind name
limit_of_kind commands Session name = refl
limit_of_kind commands Total name = refl
limit_of_kind commands Interzone name = refl
