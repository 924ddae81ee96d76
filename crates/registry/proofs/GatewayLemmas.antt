-- The best gateway by number is the first unbeaten one of the list.
use Rattle.std.proofs.Common.{◌≡◌, inl, inr, ℕ, ◌<◌, ◌≤◌, Bool, true, false, not, cond, ◌&&◌, ◌||◌, List, [], ◌∷◌, filter, find, refl, sym, ap, ◌∙◌, arith}
use Rattle.std.specs.Prelude.{Option, Some, None, IfSome, is_some, ◌⊎◌}
use Rattle.std.specs.declared.cmp.Ordering.{Ordering}
use Rattle.std.specs.declared.cmp.Ordering.TheVariants.{Less, Equal, Greater}
use Rattle.std.specs.Ordering.{is_eq, nat_cmp, MatchOrdering}
use Rattle.std.specs.BTreeMap.{is_at}
use Rattle.std.specs.List.{AllByRecursion, list_any}
use Rattle.std.specs.List.Sorted.{IsStrictlySortedBy}
use Rattle.std.specs.Map.{keys_of, values_of}
use Rattle.std.proofs.lemmas.Bool.{both_ways, false_from_ne_true, and_parts, and_from}
use Rattle.std.proofs.lemmas.Bool.Decides.{nat_tests}
use Rattle.std.proofs.lemmas.Cmp.{nat_cmp_total, ranked}
use Rattle.std.proofs.lemmas.Option.{none-some, same_Some}
use Rattle.std.proofs.lemmas.Map.{lookup-none}
use Rattle.std.proofs.lemmas.Map.Entries.{none_below_head}
use Rattle.std.proofs.lemmas.Map.Keys.{sorted_tail}
use Rattle.gk_commands.specs.declared.commands.Command.{Command}
use Rattle.compiler.specs.declared.plans.TheConstants.{DEFAULT_GATEWAY_PRIORITY}
use Rattle.compiler.specs.Rows.{ZoneRow}
use Rattle.compiler.specs.Priority.{named_priority, AreNamedFor}
use Rattle.compiler.proofs.TableLemmas.{priority_by_named}
use Rattle.registry.specs.Endpoint.{EndpointParts}
use Rattle.registry.specs.Gateway.{is_candidate, has_greater, gateway_by, gateway_of}
use Rattle.registry.specs.NumberedEndpoints.{Numbered, at_number}
use Rattle.registry.specs.Served.{found_serving}
use Rattle.registry.specs.RegistryIndex.{NoneServes, IsNextServing}
use Rattle.registry.specs.Chosen.{Named, IsBestGateway}
use Rattle.registry.proofs.FindLemmas.{is_some-find}
use Rattle.registry.proofs.NumberLemmas.{distinct_numbers, later, first, each_entry}
use Rattle.registry.proofs.NamedLemmas.{all_looked_at}
use Rattle.registry.proofs.UnnamedLemmas.{AllNamedBefore, found_unnamed, none_unnamed}

-- ---- tests of a filtered list
pub find-filter : {X : Type 0} (q p : X → Bool) (xs : List X)
    → find p (filter q xs) ≡ find (λ x. q x && p x) xs
find-filter q p [] = refl
find-filter q p (x ∷ xs) = by (q x) (find-filter q p xs)
  where
    by : (b : Bool) → find p (filter q xs) ≡ find (λ y. q y && p y) xs
        → find p (cond b (x ∷ filter q xs) (filter q xs))
        ≡ cond (b && p x) (Some x) (find (λ y. q y && p y) xs)
    by true rest = ap (cond (p x) (Some x)) rest
    by false rest = rest

pub any-filter : {X : Type 0} (q p : X → Bool) (xs : List X)
    → list_any p (filter q xs) ≡ list_any (λ x. q x && p x) xs
any-filter q p [] = refl
any-filter q p (x ∷ xs) = by (q x) (any-filter q p xs)
  where
    by : (b : Bool) → list_any p (filter q xs) ≡ list_any (λ y. q y && p y) xs
        → list_any p (cond b (x ∷ filter q xs) (filter q xs))
        ≡ ((b && p x) || list_any (λ y. q y && p y) xs)
    by true rest = ap (λ c. p x || c) rest
    by false rest = rest

-- ---- by number
-- one that passes is found
any_listed : (q : EndpointParts → Bool) (entries : Numbered) (n : ℕ) (e : EndpointParts)
    → at_number entries n ≡ Some e → q e ≡ true → list_any q (values_of entries) ≡ true
any_listed q [] n e there h = absurd (none-some e there)
any_listed q (f ∷ fs) n e there h = by (is_at (nat_cmp n) f.0) there (any_listed q fs n e)
  where
    or_true : (b : Bool) → (b || true) ≡ true
    or_true true = refl
    or_true false = refl

    by : (b : Bool) → cond b (Some f.1) (at_number fs n) ≡ Some e
        → (at_number fs n ≡ Some e → q e ≡ true → list_any q (values_of fs) ≡ true)
        → (q f.1 || list_any q (values_of fs)) ≡ true
    by true at rest = ap (λ b. b || list_any q (values_of fs)) (ap q (same_Some f.1 e at) ∙ h)
    by false at rest = ap (λ b. q f.1 || b) (rest at h) ∙ or_true (q f.1)

module _ (entries : Numbered) (sorted : IsStrictlySortedBy nat_cmp (keys_of entries)) where
  -- none passes
  none_listed : (q : EndpointParts → Bool)
      → ((n : ℕ) (e : EndpointParts) → at_number entries n ≡ Some e → q e ≡ false)
      → list_any q (values_of entries) ≡ false
  none_listed q h =
      by entries (each_entry (λ n e. q e ≡ false) entries (distinct_numbers entries sorted) h)
    where
      by : (fs : Numbered) → AllByRecursion (λ f. q f.1 ≡ false) fs
          → list_any q (values_of fs) ≡ false
      by [] all = refl
      by (f ∷ fs) all = ap (λ b. b || list_any q (values_of fs)) all.0 ∙ by fs all.1

-- the one of the least number is found first
find_lowest : (q : EndpointParts → Bool) (entries : Numbered)
    → IsStrictlySortedBy nat_cmp (keys_of entries) → (n : ℕ) (e : EndpointParts)
    → at_number entries n ≡ Some e → q e ≡ true
    → ((m : ℕ) (f : EndpointParts) → at_number entries m ≡ Some f → m < n → q f ≡ false)
    → find q (values_of entries) ≡ Some e
find_lowest q [] sorted n e there h low = absurd (none-some e there)
find_lowest q (f ∷ fs) sorted n e there h low =
    by (nat_cmp n f.0) refl (ranked n f.0 (nat_cmp n f.0) refl)
    (find_lowest q fs (sorted_tail nat_cmp f.0 (keys_of fs) sorted) n e)
  where
    by : (o : Ordering) → nat_cmp n f.0 ≡ o → MatchOrdering o (n < f.0) (n ≡ f.0) (f.0 < n)
        → (at_number fs n ≡ Some e → q e ≡ true
        → ((m : ℕ) (g : EndpointParts) → at_number fs m ≡ Some g → m < n → q g ≡ false)
        → find q (values_of fs) ≡ Some e)
        → cond (q f.1) (Some f.1) (find q (values_of fs)) ≡ Some e
    by Less k m rest =
        absurd (none-some e
        (sym (lookup-none (is_at (nat_cmp n)) (f ∷ fs)
        (none_below_head nat_cmp_total n f fs sorted k)) ∙ there))
    by Equal k m rest =
        let at : Some f.1 ≡ Some e =
        ap (λ o. cond (is_eq o) (Some f.1) (at_number fs n)) (sym k) ∙ there in
        ap (λ b. cond b (Some f.1) (find q (values_of fs))) (ap q (same_Some f.1 e at) ∙ h) ∙ at
    by Greater k m rest =
        let at : at_number fs n ≡ Some e =
        ap (λ o. cond (is_eq o) (Some f.1) (at_number fs n)) (sym k) ∙ there in
        ap (λ b. cond b (Some f.1) (find q (values_of fs))) (low f.0 f.1 (first f fs) m)
        ∙ rest at h
        (λ j g there2 less. low j g (later f fs (distinct_numbers (f ∷ fs) sorted) j g there2) less)

-- the endpoint of the best number
abbrev pub at_best : Numbered → Option (ℕ × ℕ) → Option EndpointParts
at_best entries None = None
at_best entries (Some best) = at_number entries best.1

module _ (entries : Numbered) (sorted : IsStrictlySortedBy nat_cmp (keys_of entries))
    (named : Named) (zone prefix : List ℕ) where
  abbrev able : EndpointParts → Bool
  able = is_candidate (named_priority named) zone prefix

  abbrev all_able : List EndpointParts
  all_able = filter able (values_of entries)

  abbrev beaten : EndpointParts → Bool
  beaten e = list_any (λ f. has_greater (named_priority named) f e) all_able

  -- a candidate is beaten if another has a greater priority
  is_beaten : (e f : EndpointParts) (n : ℕ) → at_number entries n ≡ Some f → able f ≡ true
      → named_priority named e.id < named_priority named f.id → beaten e ≡ true
  is_beaten e f n there passes less =
      any-filter able (λ g. has_greater (named_priority named) g e) (values_of entries)
      ∙ any_listed (λ g. able g && has_greater (named_priority named) g e) entries n f there
      (and_from (able f) (has_greater (named_priority named) f e) passes (grind (arith, nat_tests)))

  -- a candidate is not beaten if none has a greater priority
  not_beaten : (e : EndpointParts)
      → ((n : ℕ) (f : EndpointParts) → at_number entries n ≡ Some f → able f ≡ true
      → named_priority named f.id ≤ named_priority named e.id) → beaten e ≡ false
  not_beaten e h =
      any-filter able (λ g. has_greater (named_priority named) g e) (values_of entries)
      ∙ none_listed entries sorted (λ g. able g && has_greater (named_priority named) g e)
      (λ n f there. false_from_ne_true (able f && has_greater (named_priority named) f e)
      (λ both.
      let parts = and_parts (able f) (has_greater (named_priority named) f e) both in
      let least = h n f there parts.0 in
      let more = parts.1 in
      let never : ⊥ = grind (arith, nat_tests) in never))

  pub best_is_chosen : (best : Option (ℕ × ℕ)) → IsBestGateway entries named able best
      → gateway_by (named_priority named) (values_of entries) zone prefix ≡ at_best entries best
  best_is_chosen None none =
      find-filter able (λ e. not (beaten e)) (values_of entries)
      ∙ nothing (find (λ e. able e && not (beaten e)) (values_of entries))
      (is_some-find (λ e. able e && not (beaten e)) (values_of entries)
      ∙ none_listed entries sorted (λ e. able e && not (beaten e))
      (λ n e there. ap (λ b. b && not (beaten e)) (none n e there)))
    where
      nothing : (found : Option EndpointParts) → is_some found ≡ false → found ≡ None
      nothing None h = refl
      nothing (Some e) h = absurd (both_ways true h refl)
  best_is_chosen (Some best) h =
      find-filter able (λ e. not (beaten e)) (values_of entries)
      ∙ find_lowest (λ e. able e && not (beaten e)) entries sorted best.1 h.endpoint h.there
      (and_from (able h.endpoint) (not (beaten h.endpoint)) h.passes
      (ap not (not_beaten h.endpoint (λ n f there passes.
      at_most n f (h.greatest n f there passes)))))
      (λ m f there less. lower m f there less (able f) refl)
      ∙ sym h.there
    where
      at_most : (n : ℕ) (f : EndpointParts)
          → (named_priority named f.id < best.0)
          ⊎ ((named_priority named f.id ≡ best.0) × (best.1 ≤ n))
          → named_priority named f.id ≤ named_priority named h.endpoint.id
      at_most n f (inl less) = let ranked = h.ranked in omega (arith, less, ranked)
      at_most n f (inr same) =
          let ranked = h.ranked in
          let level = same.0 in
          omega (arith, level, ranked)

      beats : (m : ℕ) (f : EndpointParts) → m < best.1
          → (named_priority named f.id < best.0)
          ⊎ ((named_priority named f.id ≡ best.0) × (best.1 ≤ m))
          → named_priority named f.id < named_priority named h.endpoint.id
      beats m f less (inl lower) = let ranked = h.ranked in omega (arith, lower, ranked)
      beats m f less (inr same) =
          let late = same.1 in
          let never : ⊥ = omega (arith, less, late) in absurd never

      lower : (m : ℕ) (f : EndpointParts) → at_number entries m ≡ Some f → m < best.1
          → (b : Bool) → able f ≡ b → (able f && not (beaten f)) ≡ false
      lower m f there less false passes = ap (λ b. b && not (beaten f)) passes
      lower m f there less true passes =
          ap (λ b. b && not (beaten f)) passes
          ∙ ap not (is_beaten f h.endpoint best.1 h.there h.passes
          (beats m f less (h.greatest m f there passes)))

-- ---- by the priorities of a row
-- the gateways that are named for the row choose the gateway of the row
pub by_row : (commands : List Command) (row : Option (Option ZoneRow)) (endpoints : List
    EndpointParts)
    (zone prefix : List ℕ) (named : Named) (chosen : Option EndpointParts)
    → chosen ≡ gateway_by (named_priority named) endpoints zone prefix
    → IfSome row (λ used. AreNamedFor commands used named)
    → IfSome row (λ used. chosen ≡ gateway_of commands endpoints zone prefix used)
by_row commands None endpoints zone prefix named chosen h named_for = tt
by_row commands (Some used) endpoints zone prefix named chosen h named_for =
    h ∙ (λ i. gateway_by
    (λ gateway. priority_by_named commands used named named_for gateway i) endpoints zone prefix)

-- ---- if none is named
-- of those that serve the first is chosen
module _ (entries : Numbered) (sorted : IsStrictlySortedBy nat_cmp (keys_of entries))
    (zone prefix : List ℕ) where
  none_before : AllNamedBefore entries [] zone prefix 0
  none_before n e there less = let never : ⊥ = omega (arith, less) in absurd never

  pub none_serving : NoneServes entries zone prefix 0
      → gateway_by (named_priority []) (values_of entries) zone prefix ≡ None
  none_serving none =
      best_is_chosen entries sorted [] zone prefix None
      (all_looked_at entries [] zone prefix None
      (none_unnamed entries [] zone prefix 0 none none_before))

  pub first_serving : (number : ℕ) → IsNextServing entries zone prefix 0 number
      → gateway_by (named_priority []) (values_of entries) zone prefix ≡ at_number entries number
  first_serving number next = by (at_number entries number) refl next.there
    where
      by : (found : Option EndpointParts) → at_number entries number ≡ found
          → found_serving found zone prefix ≡ true
          → gateway_by (named_priority []) (values_of entries) zone prefix
          ≡ at_number entries number
      by None there serves = absurd (both_ways false refl serves)
      by (Some e) there serves =
          best_is_chosen entries sorted [] zone prefix (Some (DEFAULT_GATEWAY_PRIORITY, number))
          (all_looked_at entries [] zone prefix (Some (DEFAULT_GATEWAY_PRIORITY, number))
          (found_unnamed entries [] zone prefix 0 number e next there refl none_before))
