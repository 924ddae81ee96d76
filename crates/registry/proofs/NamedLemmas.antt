-- The best of the named gateways, with one more of them looked at in each step.
use Rattle.std.proofs.Common.{◌≡◌, inl, inr, ℕ, ◌<◌, ◌≤◌, ◌==◌, Bool, true, false, not, ◌&&◌, ◌||◌, nat_lt, nat_le, List, [], ◌∷◌, refl, sym, ap, subst, ◌∙◌, arith}
use Rattle.std.specs.Prelude.{Option, Some, None, ◌⊎◌, bytes_eq, unwrap_or, if◌then◌else◌}
use Rattle.std.specs.List.{AllByRecursion, IsDistinct, list_any}
use Rattle.std.specs.Map.{keys_of}
use Rattle.std.specs.Cmp.Lexicographic.{same_text}
use Rattle.std.proofs.lemmas.Bool.{both_ways}
use Rattle.std.proofs.lemmas.Bool.Decides.{nat_tests}
use Rattle.std.proofs.lemmas.Cmp.{nat_list_eq_equiv}
use Rattle.std.proofs.lemmas.List.Elements.{All-contains_itself, recursion_from_All}
use Rattle.std.proofs.lemmas.Map.Keys.{IsDistinct-head}
use Rattle.std.proofs.lemmas.Map.Views.{lookup-from_Contains}
use Rattle.compiler.specs.declared.plans.TheConstants.{DEFAULT_GATEWAY_PRIORITY}
use Rattle.compiler.specs.Priority.{named_priority}
use Rattle.registry.specs.Endpoint.{EndpointParts}
use Rattle.registry.specs.Gateway.{serves, is_candidate}
use Rattle.registry.specs.NumberedEndpoints.{Numbered, at_number, by_id, found_with_id, IsNumberFor, kept_endpoint_of}
use Rattle.registry.specs.Served.{found_serving}
use Rattle.registry.specs.Chosen.{Named, is_other_than, IsBestGateway, IsBestAt, comes_first, first_of, is_first, is_greater}
use Rattle.registry.proofs.LookUpLemmas.{Keyed-by_id, entry_id}
use Rattle.registry.proofs.NumberLemmas.{not_missed}

-- ---- numbers
-- what is no better than one is no better than another that the one does not come before
worse : (r p a b n m : ℕ) → comes_first (a, b) (p, n) ≡ false
    → (r < a) ⊎ ((r ≡ a) × (b ≤ m)) → (r < p) ⊎ ((r ≡ p) × (n ≤ m))
worse r p a b n m h k = by (nat_lt p a) refl (a == p) refl (nat_le b n) refl h k
  where
    same : (nat_lt r p) ≡ true → (r < p) ⊎ ((r ≡ p) × (n ≤ m))
    same h = inl (grind (arith, nat_tests))

    by : (x : Bool) → nat_lt p a ≡ x → (y : Bool) → (a == p) ≡ y → (z : Bool) → nat_le b n ≡ z
        → (x || (y && z)) ≡ false → (r < a) ⊎ ((r ≡ a) × (b ≤ m))
        → (r < p) ⊎ ((r ≡ p) × (n ≤ m))
    by true q y s z t h k = absurd (both_ways true h refl)
    by false q true s true t h k = absurd (both_ways true h refl)
    by false q true s false t h (inl less) =
        let never : r < p = grind (arith, nat_tests) in inl never
    by false q true s false t h (inr same) =
        let level : r ≡ p = let one = same.0 in grind (arith, nat_tests) in
        let low : n ≤ m = let two = same.1 in grind (arith, nat_tests) in
        inr (level, low)
    by false q false s z t h (inl less) =
        let lower : r < p = grind (arith, nat_tests) in inl lower
    by false q false s z t h (inr same) =
        let lower : r < p = let one = same.0 in grind (arith, nat_tests) in inl lower

-- one that another comes before is no better
no_better : (p a b n : ℕ) → comes_first (a, b) (p, n) ≡ true → (p < a) ⊎ ((p ≡ a) × (b ≤ n))
no_better p a b n h = by (nat_lt p a) refl (a == p) refl (nat_le b n) refl h
  where
    by : (x : Bool) → nat_lt p a ≡ x → (y : Bool) → (a == p) ≡ y → (z : Bool) → nat_le b n ≡ z
        → (x || (y && z)) ≡ true → (p < a) ⊎ ((p ≡ a) × (b ≤ n))
    by true q y s z t h = let lower : p < a = grind (arith, nat_tests) in inl lower
    by false q true s true t h =
        let level : p ≡ a = grind (arith, nat_tests) in
        let low : b ≤ n = grind (arith, nat_tests) in
        inr (level, low)
    by false q true s false t h = absurd (both_ways false refl h)
    by false q false s z t h = absurd (both_ways false refl h)

-- ---- priorities
-- each gateway that is named has the priority beside it
pub all_ranked : (named : Named) → IsDistinct bytes_eq (keys_of named)
    → AllByRecursion (λ e. e.1 ≡ named_priority named e.0) named
all_ranked named distinct =
    recursion_from_All (λ e. e.1 ≡ named_priority named e.0) named (λ k d within.
    sym (ap (λ found. unwrap_or found DEFAULT_GATEWAY_PRIORITY)
    (lookup-from_Contains nat_list_eq_equiv _ _ named distinct
    (All-contains_itself named k d within))))

-- ---- tests
none_listed : (id : List ℕ) (ids : List (List ℕ))
    → AllByRecursion (λ other. bytes_eq id other ≡ false) ids → list_any (bytes_eq id) ids ≡ false
none_listed id [] h = refl
none_listed id (x ∷ xs) h = ap (λ b. b || list_any (bytes_eq id) xs) h.0 ∙ none_listed id xs h.1

module _ (entries : Numbered) (named : Named) (zone prefix : List ℕ) where
  abbrev test_of : List (List ℕ) → EndpointParts → Bool
  test_of ids = is_other_than named zone prefix ids

  abbrev pub is_able : EndpointParts → Bool
  is_able = is_candidate (named_priority named) zone prefix

  -- another test that says the same
  pub retest : (test other : EndpointParts → Bool)
      → ((n : ℕ) (e : EndpointParts) → at_number entries n ≡ Some e → test e ≡ other e)
      → (best : Option (ℕ × ℕ)) → IsBestGateway entries named test best → IsBestGateway entries
      named other best
  retest test other agree None h = λ n e there. sym (agree n e there) ∙ h n e there
  retest test other agree (Some best) h = record {
    endpoint = h.endpoint;
    there = h.there;
    passes = sym (agree best.1 h.endpoint h.there) ∙ h.passes;
    ranked = h.ranked;
    greatest = λ n e there p. h.greatest n e there (agree n e there ∙ p);
  }

  -- with no one left, each candidate was looked at
  pub all_looked_at : (best : Option (ℕ × ℕ)) → IsBestGateway entries named (test_of []) best
      → IsBestGateway entries named is_able best
  all_looked_at best h = retest (test_of []) is_able (λ n e there. by (is_able e)) best h
    where
      by : (b : Bool) → (b && true) ≡ b
      by true = refl
      by false = refl

  -- an ID that is no candidate's makes no difference
  others_same : (id : List ℕ) (rest : List (List ℕ)) (e : EndpointParts)
      → (bytes_eq e.id id ≡ true → is_able e ≡ false) → test_of (id ∷ rest) e ≡ test_of rest e
  others_same id rest e f = by (bytes_eq e.id id) (is_able e) f
    where
      by : (b a : Bool) → (b ≡ true → a ≡ false)
          → (a && not (b || list_any (bytes_eq e.id) rest))
          ≡ (a && not (list_any (bytes_eq e.id) rest))
      by false a f = refl
      by true a f =
          ap (λ x. x && false) (f refl)
          ∙ sym (ap (λ x. x && not (list_any (bytes_eq e.id) rest)) (f refl))

  pub drop_unknown : (id : List ℕ) → kept_endpoint_of (by_id entries) id ≡ None
      → (rest : List (List ℕ)) (best : Option (ℕ × ℕ))
      → IsBestGateway entries named (test_of (id ∷ rest)) best → IsBestGateway entries named
      (test_of rest) best
  drop_unknown id none rest best h =
      retest (test_of (id ∷ rest)) (test_of rest)
      (λ n e there. others_same id rest e
      (λ own. absurd (not_missed entries n id e there own none))) best h

  -- ---- one that stays the best
  module _ (id : List ℕ) (rest : List (List ℕ)) (b : ℕ × ℕ)
      (h : IsBestAt entries named (test_of (id ∷ rest)) b.0 b.1) where
    weaker : (able mine listed : Bool) → (able && not (mine || listed)) ≡ true
        → (able && not listed) ≡ true
    weaker true true listed k = cc
    weaker true false listed k = k
    weaker false mine listed k = cc

    stronger : (able mine listed : Bool) → mine ≡ false → (able && not listed) ≡ true
        → (able && not (mine || listed)) ≡ true
    stronger able true listed k g = cc
    stronger able false listed k g = g

    -- the one with the ID is no better
    stays_if : ((n : ℕ) (f : EndpointParts) → at_number entries n ≡ Some f
        → bytes_eq f.id id ≡ true
        → (named_priority named f.id < b.0) ⊎ ((named_priority named f.id ≡ b.0) × (b.1 ≤ n)))
        → IsBestAt entries named (test_of rest) b.0 b.1
    stays_if own_is = record {
      endpoint = h.endpoint;
      there = h.there;
      passes =
          weaker (is_able h.endpoint) (bytes_eq h.endpoint.id id)
          (list_any (bytes_eq h.endpoint.id) rest) h.passes;
      ranked = h.ranked;
      greatest = λ n f at p. by n f at p (bytes_eq f.id id) refl;
    }
      where
        by : (n : ℕ) (f : EndpointParts) → at_number entries n ≡ Some f → test_of rest f ≡ true
            → (own : Bool) → bytes_eq f.id id ≡ own
            → (named_priority named f.id < b.0) ⊎ ((named_priority named f.id ≡ b.0) × (b.1 ≤ n))
        by n f at p true e = own_is n f at e
        by n f at p false e =
            h.greatest n f at
            (stronger (is_able f) (bytes_eq f.id id) (list_any (bytes_eq f.id) rest) e p)

    priority_of_own : (f : EndpointParts) → bytes_eq f.id id ≡ true
        → named_priority named f.id ≡ named_priority named id
    priority_of_own f own = ap (named_priority named) (same_text f.id id (sym own))

    stays_greater : nat_lt (named_priority named id) b.0 ≡ true
        → IsBestAt entries named (test_of rest) b.0 b.1
    stays_greater less = stays_if (λ n f at own.
        let level = priority_of_own f own in
        let lower : named_priority named f.id < b.0 = grind (arith, nat_tests) in
        inl lower)

    stays_before : (next number : ℕ)
        → IsNumberFor (record { entries = entries; next = next }) id number
        → comes_first b (named_priority named id, number) ≡ true
        → IsBestAt entries named (test_of rest) b.0 b.1
    stays_before next number known first = stays_if (λ n f at own.
        let place : n ≡ number = known.only n (ap (found_with_id id) at ∙ own) in
        by n f own place (no_better (named_priority named id) b.0 b.1 number first))
      where
        by : (n : ℕ) (f : EndpointParts) → bytes_eq f.id id ≡ true → n ≡ number
            → (named_priority named id < b.0)
            ⊎ ((named_priority named id ≡ b.0) × (b.1 ≤ number))
            → (named_priority named f.id < b.0) ⊎ ((named_priority named f.id ≡ b.0) × (b.1 ≤ n))
        by n f own place (inl less) =
            inl (subst (λ p. p < b.0) (sym (priority_of_own f own)) less)
        by n f own place (inr same) =
            inr (priority_of_own f own ∙ same.0, subst (λ m. b.1 ≤ m) (sym place) same.1)

  pub keeps_greater : (id : List ℕ) (rest : List (List ℕ)) (best : Option (ℕ × ℕ))
      → IsBestGateway entries named (test_of (id ∷ rest)) best
      → is_greater best (named_priority named id) ≡ true
      → IsBestGateway entries named (test_of rest) best
  keeps_greater id rest None h less = cc
  keeps_greater id rest (Some b) h less = stays_greater id rest b h less

  pub keeps_first : (next : ℕ) (id : List ℕ) (number : ℕ)
      → IsNumberFor (record { entries = entries; next = next }) id number
      → (rest : List (List ℕ)) (best : Option (ℕ × ℕ))
      → IsBestGateway entries named (test_of (id ∷ rest)) best
      → is_first best (named_priority named id, number) ≡ true
      → IsBestGateway entries named (test_of rest) best
  keeps_first next id number known rest None h first = cc
  keeps_first next id number known rest (Some b) h first =
      stays_before id rest b h next number known first

  module _ (next : ℕ) (id : List ℕ) (number : ℕ)
      (known : IsNumberFor (record { entries = entries; next = next }) id number)
      (rest : List (List ℕ)) (best : Option (ℕ × ℕ))
      (h : IsBestGateway entries named (test_of (id ∷ rest)) best) where
    -- who has the ID stands under the number
    under : (n : ℕ) (e : EndpointParts) → at_number entries n ≡ Some e → bytes_eq e.id id ≡ true
        → n ≡ number
    under n e there own = known.only n (ap (found_with_id id) there ∙ own)

    -- whether who has the ID is a candidate
    able : (n : ℕ) (e : EndpointParts) → at_number entries n ≡ Some e → bytes_eq e.id id ≡ true
        → (found_serving (at_number entries number) zone prefix
        && nat_lt 0 (named_priority named id))
        ≡ is_able e
    able n e there own =
        ap (λ m. found_serving (at_number entries m) zone prefix
        && nat_lt 0 (named_priority named id))
        (sym (under n e there own))
        ∙ ap (λ found. found_serving found zone prefix && nat_lt 0 (named_priority named id)) there
        ∙ ap (λ i. serves zone prefix e && nat_lt 0 (named_priority named i))
        (sym (same_text e.id id (sym own)))

    pub drop_failing : (found_serving (at_number entries number) zone prefix
        && nat_lt 0 (named_priority named id)) ≡ false
        → IsBestGateway entries named (test_of rest) best
    drop_failing fails =
        retest (test_of (id ∷ rest)) (test_of rest)
        (λ n e there. others_same id rest e (λ own. sym (able n e there own) ∙ fails)) best h

    module _ (distinct : IsDistinct bytes_eq (id ∷ rest)) (e : EndpointParts)
        (there : at_number entries number ≡ Some e) (own : bytes_eq e.id id ≡ true)
        (passes : is_able e ≡ true) where
      own_priority : (f : EndpointParts) → bytes_eq f.id id ≡ true
          → named_priority named f.id ≡ named_priority named id
      own_priority f q = ap (named_priority named) (same_text f.id id (sym q))

      passes_now : test_of rest e ≡ true
      passes_now =
          ap (λ b. b && not (list_any (bytes_eq e.id) rest)) passes
          ∙ ap not (ap (λ i. list_any (bytes_eq i) rest) (same_text e.id id (sym own))
          ∙ none_listed id rest (IsDistinct-head bytes_eq id rest distinct))

      -- an endpoint with another ID passes as before
      as_before : (f : EndpointParts) → bytes_eq f.id id ≡ false
          → test_of (id ∷ rest) f ≡ test_of rest f
      as_before f q = others_same id rest f (λ own2. absurd (both_ways (bytes_eq f.id id) q own2))

      -- the new one is the best, if none before it comes first
      new_best : ((n : ℕ) (f : EndpointParts) → at_number entries n ≡ Some f
          → test_of (id ∷ rest) f ≡ true
          → (named_priority named f.id < named_priority named id)
          ⊎ ((named_priority named f.id ≡ named_priority named id) × (number ≤ n)))
          → IsBestAt entries named (test_of rest) (named_priority named id) number
      new_best others = record {
        endpoint = e;
        there = there;
        passes = passes_now;
        ranked = sym (own_priority e own);
        greatest = λ n f at p. by n f at p (bytes_eq f.id id) refl;
      }
        where
          by : (n : ℕ) (f : EndpointParts) → at_number entries n ≡ Some f → test_of rest f ≡ true
              → (b : Bool) → bytes_eq f.id id ≡ b
              → (named_priority named f.id < named_priority named id)
              ⊎ ((named_priority named f.id ≡ named_priority named id) × (number ≤ n))
          by n f at p true q =
              let one = under n f at q in
              let low : number ≤ n = omega (arith, one) in
              inr (own_priority f q, low)
          by n f at p false q = others n f at (as_before f q ∙ p)

      -- the one that was the best stays so, if it comes first
      old_best : (a b : ℕ) → IsBestAt entries named (test_of (id ∷ rest)) a b
          → comes_first (a, b) (named_priority named id, number) ≡ true
          → IsBestAt entries named (test_of rest) a b
      old_best a b old first = record {
        endpoint = old.endpoint;
        there = old.there;
        passes = still old.endpoint old.passes;
        ranked = old.ranked;
        greatest = λ n f at p. by n f at p (bytes_eq f.id id) refl;
      }
        where
          still : (f : EndpointParts) → test_of (id ∷ rest) f ≡ true → test_of rest f ≡ true
          still f p = by2 (is_able f) (bytes_eq f.id id) p
            where
              by2 : (c d : Bool) → (c && not (d || list_any (bytes_eq f.id) rest)) ≡ true
                  → (c && not (list_any (bytes_eq f.id) rest)) ≡ true
              by2 true false p = p
              by2 true true p = absurd (both_ways false refl p)
              by2 false d p = absurd (both_ways false refl p)

          by : (n : ℕ) (f : EndpointParts) → at_number entries n ≡ Some f → test_of rest f ≡ true
              → (c : Bool) → bytes_eq f.id id ≡ c
              → (named_priority named f.id < a) ⊎ ((named_priority named f.id ≡ a) × (b ≤ n))
          by n f at p true q =
              subst (λ m. (named_priority named f.id < a)
              ⊎ ((named_priority named f.id ≡ a) × (b ≤ m)))
              (sym (under n f at q))
              (subst (λ r. (r < a) ⊎ ((r ≡ a) × (b ≤ number))) (sym (own_priority f q))
              (no_better (named_priority named id) a b number first))
          by n f at p false q = old.greatest n f at (as_before f q ∙ p)

      pub take_new : (before : Option (ℕ × ℕ)) → IsBestGateway entries named (test_of (id ∷ rest))
          before
          → IsBestAt entries named (test_of rest)
          (first_of before (named_priority named id, number)).0
          (first_of before (named_priority named id, number)).1
      take_new None none =
          new_best (λ n f at p. absurd (both_ways (test_of (id ∷ rest) f) (none n f at) p))
      take_new (Some a) old = by (comes_first a (named_priority named id, number)) refl
        where
          by : (c : Bool) → comes_first a (named_priority named id, number) ≡ c
              → IsBestAt entries named (test_of rest)
              (if c then a else (named_priority named id, number)).0
              (if c then a else (named_priority named id, number)).1
          by true first = old_best a.0 a.1 old first
          by false later =
              new_best (λ n f at p.
              worse (named_priority named f.id) (named_priority named id) a.0 a.1 number n later
              (old.greatest n f at p))

    -- the candidate with this ID was looked at
    pub looked_at : IsDistinct bytes_eq (id ∷ rest)
        → kept_endpoint_of (by_id entries) id ≡ at_number entries number
        → (found_serving (at_number entries number) zone prefix
        && nat_lt 0 (named_priority named id)) ≡ true
        → IsBestAt entries named (test_of rest) (first_of best (named_priority named id, number)).0
        (first_of best (named_priority named id, number)).1
    looked_at distinct kept passes = by (at_number entries number) refl
      where
        by : (found : Option EndpointParts) → at_number entries number ≡ found
            → IsBestAt entries named (test_of rest)
            (first_of best (named_priority named id, number)).0
            (first_of best (named_priority named id, number)).1
        by None at =
            absurd (both_ways false refl
            (ap (λ found. found_serving found zone prefix && nat_lt 0 (named_priority named id))
            (sym at)
            ∙ passes))
        by (Some e) at =
            let own = entry_id (by_id entries) id e (Keyed-by_id entries) (kept ∙ at) in
            take_new distinct e at own (sym (able number e at own) ∙ passes) best h
