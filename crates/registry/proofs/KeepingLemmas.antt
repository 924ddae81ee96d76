-- Endpoints that stay if their zone is a local one, looked at by number.
use Rattle.std.proofs.Common.{◌≡◌, inl, inr, ℕ, ◌+◌, ◌<◌, ◌≤◌, ◌^◌, Bool, true, false, not, cond, List, [], ◌∷◌, length, slice_get, refl, sym, ap, subst, ◌∙◌, arith}
use Rattle.std.specs.Prelude.{Option, Some, None, IsSome, IfSome, ⊤, ◌⊎◌, is_some, bytes_eq, option_map}
use Rattle.std.specs.Ordering.{is_gt, nat_cmp}
use Rattle.std.specs.Cmp.{unsigned_tied}
use Rattle.std.specs.BTreeMap.{is_at}
use Rattle.std.specs.List.{AllByRecursion}
use Rattle.std.specs.List.Sorted.{IsStrictlySortedBy}
use Rattle.std.specs.Map.{keys_of, values_of}
use Rattle.std.proofs.lemmas.Bool.{both_ways, cases_lt}
use Rattle.std.proofs.lemmas.Cmp.{nat_list_eq_equiv}
use Rattle.std.proofs.lemmas.List.Filters.{length-filter_both}
use Rattle.std.proofs.lemmas.List.Folds.{find_at}
use Rattle.std.proofs.lemmas.Map.Keys.{le_from_not_gt}
use Rattle.std.proofs.lemmas.Option.{none-some, same_Some}
use Rattle.gk_commands.specs.declared.commands.Command.{Command}
use Rattle.gk_commands.specs.declared.zones.ZoneKind.{ZoneKind}
use Rattle.gk_commands.specs.Zones.{is_local, is_local_option, zones_of}
use Rattle.compiler.specs.declared.zones.ZoneView.{ZoneView}
use Rattle.compiler.specs.Zones.{number_in, view_of, view_of_name, zone_at}
use Rattle.registry.specs.Endpoint.{EndpointParts}
use Rattle.registry.specs.Registration.{has_id, kept_zones, without_endpoint}
use Rattle.registry.specs.NumberedEndpoints.{Numbered, Numbers, NumberedParts, endpoints_of, at_number, number_of_id, is_number, found_with_id, IsNumbered, IsNumberFor, IsNextFrom, IsSetAt, NoneFrom}
use Rattle.registry.proofs.NumberLemmas.{distinct_numbers, each_entry, known_number, number_itself, same_number}
use Rattle.registry.proofs.ServedLemmas.{not_above}

-- ---- the zone of a name
-- whether a zone was told of, and it is a local one
abbrev pub told_local : Option ZoneView → Bool
told_local None = false
told_local (Some view) = view.local

pub local_as_told : (commands : List Command) (name : List ℕ) (told : Option ZoneView)
    → told ≡ view_of_name commands name → told_local told ≡ is_local commands name
local_as_told commands name told h =
    ap told_local h ∙ by (zone_at commands number)
    ∙ sym (ap (λ o. is_local_option (option_map (λ zone. zone.1) o))
    (find_at (λ zone. bytes_eq name zone.0) (zones_of commands)))
  where
    number : ℕ
    number = number_in (zones_of commands) name

    by : (o : Option (List ℕ × ZoneKind))
        → told_local (option_map (view_of number) o)
        ≡ is_local_option (option_map (λ zone. zone.1) o)
    by None = refl
    by (Some zone) = refl

-- ---- the least number from one on
-- a number is this one or lies after it
abbrev LiesFrom : ℕ → ℕ → Type 0
LiesFrom from number = (is_gt (nat_cmp from number) ≡ false) × ⊤

module _ (entries : Numbered) (numbers : Numbers) (next : ℕ)
    (sound : IsNumbered entries numbers next) where
  -- the number of an endpoint's ID is its own
  number_known : (n : ℕ) (e : EndpointParts) → at_number entries n ≡ Some e
      → number_of_id numbers e.id ≡ Some n
  number_known n e there =
      by (number_of_id numbers e.id) refl
      (sound.numbered e.id n ∙ ap (found_with_id e.id) there ∙ nat_list_eq_equiv.refl e.id)
    where
      by : (known : Option ℕ) → number_of_id numbers e.id ≡ known → is_number n known ≡ true
          → known ≡ Some n
      by None k h = absurd (both_ways false refl h)
      by (Some m) k h = ap (λ x. Some x) (same_number m n (unsigned_tied m n ∙ h))

  -- the first of those that lie from a number on
  pub is_next : (r : Numbered) (from n : ℕ) (e : EndpointParts) → slice_get r 0 ≡ Some (n, e)
      → IfSome (slice_get r 0) (λ f. LiesFrom from f.0 × (at_number entries f.0 ≡ Some f.1))
      → ((q : ℕ) → LiesFrom from q → IsSome (at_number entries q)
      → IfSome (slice_get r 0) (λ f. is_gt (nat_cmp f.0 q) ≡ false))
      → next < 2 ^ 32 → IsNextFrom (record { entries = entries; next = next }) from n e
  is_next r from n e at first least fits =
      let here = subst (λ o. IfSome o
      (λ f. LiesFrom from f.0 × (at_number entries f.0 ≡ Some f.1))) at first in
      let low = sound.below n e here.1 in
      record {
        there = here.1;
        from_here = le_from_not_gt from n here.0.0;
        least = λ other more less. by other more less (at_number entries other) refl;
        own = known_number entries numbers next sound e.id n (number_known n e here.1);
        below = low;
        room = omega (arith, low, fits);
      }
    where
      by : (other : ℕ) → from ≤ other → other < n → (found : Option EndpointParts)
          → at_number entries other ≡ found → found ≡ None
      by other more less None there = refl
      by other more less (Some f) there =
          let after : n ≤ other = le_from_not_gt n other
          (subst (λ o. IfSome o (λ g. is_gt (nat_cmp g.0 other) ≡ false)) at
          (least other (not_above from other more, tt) (ap is_some there))) in
          let never : ⊥ = omega (arith, after, less) in absurd never

-- ---- lists
-- if none that is taken out is in a local zone, the same stay
stay_without : (commands : List Command) (id : List ℕ) (entries : Numbered)
    → AllByRecursion (λ e. has_id id e.1 ≡ true → is_local commands e.1.zone ≡ false) entries
    → kept_zones commands (without_endpoint (values_of entries) id)
    ≡ kept_zones commands (values_of entries)
stay_without commands id [] h = refl
stay_without commands id (e ∷ es) h = by (has_id id e.1) (stay_without commands id es h.1) h.0
  where
    by : (b : Bool)
        → kept_zones commands (without_endpoint (values_of es) id)
        ≡ kept_zones commands (values_of es)
        → (b ≡ true → is_local commands e.1.zone ≡ false)
        → kept_zones commands (cond (not b) (e.1 ∷ without_endpoint (values_of es) id)
        (without_endpoint (values_of es) id))
        ≡ kept_zones commands (e.1 ∷ values_of es)
    by true rest astray =
        rest
        ∙ ap (λ b. cond b (e.1 ∷ kept_zones commands (values_of es))
        (kept_zones commands (values_of es))) (sym (astray refl))
    by false rest astray = ap (λ xs. cond (is_local commands e.1.zone) (e.1 ∷ xs) xs) rest

-- if each is in a local zone, all stay
all_stay : (commands : List Command) (entries : Numbered)
    → AllByRecursion (λ e. is_local commands e.1.zone ≡ true) entries
    → kept_zones commands (values_of entries) ≡ values_of entries
all_stay commands [] h = refl
all_stay commands (e ∷ es) h =
    ap (λ b. cond b (e.1 ∷ kept_zones commands (values_of es)) (kept_zones commands (values_of es)))
    h.0
    ∙ ap (λ xs. e.1 ∷ xs) (all_stay commands es h.1)

-- those that stay are no more
pub no_more_stay : (commands : List Command) (endpoints : List EndpointParts)
    → length (kept_zones commands endpoints) ≤ length endpoints
no_more_stay commands endpoints =
    let both = length-filter_both (λ e. is_local commands e.zone)
    (λ e. not (is_local commands e.zone)) (λ e. refl) endpoints in
    omega (arith, both)

-- ---- number by number
-- the same stay as before, and each below this number is in a local zone
pub record StayBelow (commands : List Command) (before now : NumberedParts) (from : ℕ) : Type 0
  where
    pub kept : kept_zones commands (endpoints_of now) ≡ kept_zones commands (endpoints_of before)
    pub local : (number : ℕ) (e : EndpointParts) → number < from
        → at_number now.entries number ≡ Some e → is_local commands e.zone ≡ true

module _ (commands : List Command) (before now : NumberedParts) (from number : ℕ) (e :
    EndpointParts)
    (h : StayBelow commands before now from) (found : IsNextFrom now from number e) where
  -- each other one up to this number is in a local zone
  others_local : (m : ℕ) (f : EndpointParts) → m < number + 1 → is_at (nat_cmp number) m ≡ false
      → at_number now.entries m ≡ Some f → is_local commands f.zone ≡ true
  others_local m f low apart there = by (cases_lt m from) (cases_lt m number)
    where
      by : (m < from) ⊎ (from ≤ m) → (m < number) ⊎ (number ≤ m)
          → is_local commands f.zone ≡ true
      by (inl less) n = h.local m f less there
      by (inr more) (inl less) = absurd (none-some f (sym (found.least m more less) ∙ there))
      by (inr more) (inr high) =
          let one : number ≡ m = omega (arith, high, low) in
          absurd (both_ways (is_at (nat_cmp number) m) apart
          (ap (is_at (nat_cmp number)) (sym one) ∙ number_itself number))

  -- it is in no local zone, and was taken out
  pub one_goes : (new : NumberedParts) (id : List ℕ) → id ≡ e.id → is_local commands e.zone ≡ false
      → IsStrictlySortedBy nat_cmp (keys_of now.entries)
      → endpoints_of new ≡ without_endpoint (endpoints_of now) id
      → ((m : ℕ) → IsNumberFor now id m → IsSetAt now.entries new.entries m None)
      → StayBelow commands before new (number + 1)
  one_goes new id its astray sorted without numbered =
      let set = numbered number (subst (λ x. IsNumberFor now x number) (sym its) found.own) in
      record {
        kept = ap (kept_zones commands) without
            ∙ ap (λ x. kept_zones commands (without_endpoint (endpoints_of now) x)) its
            ∙ stay_without commands e.id now.entries
            (each_entry (λ m f. has_id e.id f ≡ true → is_local commands f.zone ≡ false)
            now.entries (distinct_numbers now.entries sorted) it_alone)
            ∙ h.kept;
        local = λ m f low there. by m f low (is_at (nat_cmp number) m) refl (sym (set m) ∙ there);
      }
    where
      it_alone : (m : ℕ) (f : EndpointParts) → at_number now.entries m ≡ Some f
          → has_id e.id f ≡ true → is_local commands f.zone ≡ false
      it_alone m f there own =
          let one : m ≡ number = found.own.only m (ap (found_with_id e.id) there ∙ own) in
          let same : Some e ≡ Some f = sym found.there
          ∙ ap (at_number now.entries) (sym one) ∙ there in
          ap (λ x. is_local commands x.zone) (sym (same_Some e f same)) ∙ astray

      by : (m : ℕ) (f : EndpointParts) → m < number + 1 → (b : Bool)
          → is_at (nat_cmp number) m ≡ b → cond b None (at_number now.entries m) ≡ Some f
          → is_local commands f.zone ≡ true
      by m f low true q there = absurd (none-some f there)
      by m f low false q there = others_local m f low q there

-- all were looked at
pub all_looked_at : (commands : List Command) (before now : NumberedParts) (from : ℕ)
    → StayBelow commands before now from → IsStrictlySortedBy nat_cmp (keys_of now.entries)
    → NoneFrom now.entries from
    → endpoints_of now ≡ kept_zones commands (endpoints_of before)
all_looked_at commands before now from h sorted none =
    sym (all_stay commands now.entries
    (each_entry (λ m f. is_local commands f.zone ≡ true) now.entries
    (distinct_numbers now.entries sorted) (λ m f there. by m f there (cases_lt m from))))
    ∙ h.kept
  where
    by : (m : ℕ) (f : EndpointParts) → at_number now.entries m ≡ Some f
        → (m < from) ⊎ (from ≤ m) → is_local commands f.zone ≡ true
    by m f there (inl less) = h.local m f less there
    by m f there (inr more) = absurd (none-some f (sym (none m more) ∙ there))
