-- The technology prefixes that are learned from gateways, as they are defined and as they are
-- served.
use Rattle.std.proofs.Common.{◌≡◌, ℕ, zero, suc, ◌<◌, ◌≤◌, Bool, true, false, cond, nat_lt, ◌&&◌, ◌||◌, List, [], ◌∷◌, length, length-take, take, filter, refl, sym, ap, subst, ◌∙◌, arith, true≢false}
use Rattle.std.specs.Prelude.{min, Option, Some, None, MatchOption, flat_map, is_some, bytes_eq, if◌then◌else◌}
use Rattle.std.specs.Cmp.Lexicographic.{same_text}
use Rattle.std.specs.Ordering.{nat_cmp}
use Rattle.std.specs.BTreeMap.{is_at}
use Rattle.std.specs.List.{AllByRecursion, list_any}
use Rattle.std.specs.List.Sorted.{IsStrictlySortedBy}
use Rattle.std.specs.Map.{keys_of, values_of}
use Rattle.std.proofs.lemmas.Bool.{and_parts, both_ways}
use Rattle.std.proofs.lemmas.Bool.Decides.{nat_tests}
use Rattle.std.proofs.lemmas.Cmp.{nat_list_eq_equiv}
use Rattle.std.proofs.lemmas.List.{take-take}
use Rattle.std.proofs.lemmas.Option.{none-some, same_Some}
use Rattle.std.proofs.lemmas.List.Folds.{list_any-append}
use Rattle.gk_terms.specs.TechPrefix.{is_tech_prefix}
use Rattle.gk_commands.specs.declared.commands.Command.{Command}
use Rattle.gk_commands.specs.Zones.{is_local}
use Rattle.compiler.specs.Technology.{begins_with, longest_learned}
use Rattle.compiler.specs.TablesIndex.{is_among}
use Rattle.compiler.proofs.LearnedLemmas.{among_filter, longest_from, none_from}
use Rattle.compiler.proofs.TechnologyLemmas.{IsMost, begins_from, begins_is, begins_within, filter_keeps, length_take, may_be_prefix, may_not_be_prefix}
use Rattle.registry.specs.Endpoint.{EndpointParts, has_technology}
use Rattle.registry.specs.Gateway.{is_gateway}
use Rattle.registry.specs.Learned.{has_some, learned_prefixes, prefixes_given}
use Rattle.registry.specs.RegistryIndex.{AreServed}
use Rattle.registry.specs.Registration.{kept_zones}
use Rattle.registry.specs.NumberedEndpoints.{Numbered, at_number}
use Rattle.registry.specs.Served.{AreWithin, IsLongestServed, IsServed, NoneIsServed, Places, ZoneNumbers, found_in, found_serving, kept_for, longest_for}
use Rattle.registry.proofs.NumberLemmas.{distinct_numbers, each_entry}

-- ---- prefixes of one endpoint
-- a prefix is among the list exactly if it is one of the endpoint's
among_turned : (xs : List (List ℕ)) (q : List ℕ) → is_among xs q ≡ list_any (bytes_eq q) xs
among_turned [] q = refl
among_turned (x ∷ xs) q = λ i. nat_list_eq_equiv.symm x q i || among_turned xs q i

-- what an endpoint gives
given : (e : EndpointParts) (q : List ℕ) → is_among (prefixes_given e) q ≡ true
    → (is_gateway e.kind ≡ true) × (has_technology e q ≡ true)
given e q h = by (is_gateway e.kind) refl h
  where
    by : (b : Bool) → is_gateway e.kind ≡ b
        → is_among (if b then filter has_some e.technologies else []) q ≡ true
        → (is_gateway e.kind ≡ true) × (has_technology e q ≡ true)
    by true kind g =
        (kind, sym (among_turned e.technologies q) ∙ (among_filter has_some e.technologies q g).0)
    by false kind g = absurd (true≢false (sym g))

gives : (e : EndpointParts) (q : List ℕ) → is_gateway e.kind ≡ true → has_technology e q ≡ true
    → has_some q ≡ true → is_among (prefixes_given e) q ≡ true
gives e q kind has some =
    ap (λ b. is_among (if b then filter has_some e.technologies else []) q) kind
    ∙ filter_keeps has_some e.technologies q (among_turned e.technologies q ∙ has) some

-- ---- prefixes of all endpoints
later : (a b : Bool) → b ≡ true → (a || b) ≡ true
later true b h = refl
later false b h = h

-- what is learned is given by one of them, in a zone that is a local one
learned_by : (commands : List Command) (q : List ℕ) {A : Type 0} (entries : Numbered)
    → AllByRecursion (λ e. is_local commands e.1.zone ≡ true → is_gateway e.1.kind ≡ true
    → has_technology e.1 q ≡ true → A) entries
    → is_among (learned_prefixes commands (values_of entries)) q ≡ true → A
learned_by commands q [] each h = absurd (true≢false (sym h))
learned_by commands q {A} (e ∷ es) each h =
    by (is_local commands e.1.zone) refl h (learned_by commands q es each.1)
  where
    rest : List (List ℕ)
    rest = learned_prefixes commands (values_of es)

    here : (b : Bool) → is_among (prefixes_given e.1) q ≡ b → (b || is_among rest q) ≡ true
        → is_local commands e.1.zone ≡ true → (is_among rest q ≡ true → A) → A
    here true g one local others = let own = given e.1 q g in each.0 local own.0 own.1
    here false g one local others = others one

    by : (b : Bool) → is_local commands e.1.zone ≡ b
        → is_among (flat_map prefixes_given (cond b (e.1 ∷ kept_zones commands (values_of es))
        (kept_zones commands (values_of es)))) q ≡ true
        → (is_among rest q ≡ true → A) → A
    by true local g others =
        here (is_among (prefixes_given e.1) q) refl
        (sym (list_any-append (λ one. bytes_eq one q) (prefixes_given e.1) rest) ∙ g) local others
    by false local g others = others g

-- what one of them gives in a local zone is learned
learned_from : (commands : List Command) (q : List ℕ) (entries : Numbered) (number : ℕ)
    (f : EndpointParts) → at_number entries number ≡ Some f → is_local commands f.zone ≡ true
    → is_among (prefixes_given f) q ≡ true
    → is_among (learned_prefixes commands (values_of entries)) q ≡ true
learned_from commands q [] number f there local gives = absurd (none-some f there)
learned_from commands q (e ∷ es) number f there local gives =
    by _ refl there (learned_from commands q es number f) (is_local commands e.1.zone) refl
  where
    rest : List (List ℕ)
    rest = learned_prefixes commands (values_of es)

    with_rest : (b : Bool) → is_local commands e.1.zone ≡ b → is_among rest q ≡ true
        → is_among (flat_map prefixes_given (cond b (e.1 ∷ kept_zones commands (values_of es))
        (kept_zones commands (values_of es)))) q ≡ true
    with_rest true zone g =
        list_any-append (λ one. bytes_eq one q) (prefixes_given e.1) rest
        ∙ later (is_among (prefixes_given e.1) q) (is_among rest q) g
    with_rest false zone g = g

    own : (b : Bool) → is_local commands e.1.zone ≡ b → e.1 ≡ f
        → is_among (flat_map prefixes_given (cond b (e.1 ∷ kept_zones commands (values_of es))
        (kept_zones commands (values_of es)))) q ≡ true
    own true zone same =
        list_any-append (λ one. bytes_eq one q) (prefixes_given e.1) rest
        ∙ ap (λ b. b || is_among rest q)
        (ap (λ x. is_among (prefixes_given x) q) same ∙ gives)
    own false zone same =
        absurd (true≢false (sym local ∙ ap (λ x. is_local commands x.zone) (sym same) ∙ zone))

    by : (a : Bool) → is_at (nat_cmp number) e.0 ≡ a
        → cond a (Some e.1) (at_number es number) ≡ Some f
        → (at_number es number ≡ Some f → is_local commands f.zone ≡ true
        → is_among (prefixes_given f) q ≡ true → is_among rest q ≡ true)
        → (b : Bool) → is_local commands e.1.zone ≡ b
        → is_among (learned_prefixes commands (values_of (e ∷ es))) q ≡ true
    by true at g others b zone =
        subst (λ t. is_among (flat_map prefixes_given
        (cond t (e.1 ∷ kept_zones commands (values_of es)) (kept_zones commands (values_of es)))) q
        ≡ true) (sym zone) (own b zone (same_Some e.1 f g))
    by false at g others b zone =
        subst (λ t. is_among (flat_map prefixes_given
        (cond t (e.1 ∷ kept_zones commands (values_of es)) (kept_zones commands (values_of es)))) q
        ≡ true) (sym zone) (with_rest b zone (others g local gives))

-- ---- learned and served
module _ (commands : List Command) (places : Places) (entries : Numbered)
    (served : AreServed places entries) where
  abbrev passes : List ℕ → Bool
  passes = is_local commands

  abbrev learned : List (List ℕ)
  learned = learned_prefixes commands (values_of entries)

  learned_is_served : IsStrictlySortedBy nat_cmp (keys_of entries) → (q : List ℕ)
      → is_among learned q ≡ true → IsServed places passes q
  learned_is_served sorted q h =
      learned_by commands q entries
      (each_entry (λ n f. is_local commands f.zone ≡ true → is_gateway f.kind ≡ true
      → has_technology f q ≡ true → IsServed places passes q) entries
      (distinct_numbers entries sorted)
      (λ n f there local kind has. record {
        zone = f.zone;
        number = n;
        passing = local;
        there = served (f.zone, q, n)
            ∙ ap (λ o. found_serving o f.zone q) there
            ∙ (λ i. kind i && nat_list_eq_equiv.refl f.zone i && has i);
      })) h

  served_is_learned : (q : List ℕ) → has_some q ≡ true → IsServed places passes q
      → is_among learned q ≡ true
  served_is_learned q some s =
      by (at_number entries s.number) refl (sym (served (s.zone, q, s.number)) ∙ s.there)
    where
      by : (o : Option EndpointParts) → at_number entries s.number ≡ o
          → found_serving o s.zone q ≡ true → is_among learned q ≡ true
      by None e h = absurd (true≢false (sym h))
      by (Some f) e h =
          let outer = and_parts (is_gateway f.kind && bytes_eq f.zone s.zone) (has_technology f q) h
          in
          let inner = and_parts (is_gateway f.kind) (bytes_eq f.zone s.zone) outer.0 in
          learned_from commands q entries s.number f e
          (ap (is_local commands) (same_text f.zone s.zone (sym inner.1)) ∙ s.passing)
          (gives f q inner.0 outer.1 some)

  module _ (sorted : IsStrictlySortedBy nat_cmp (keys_of entries)) (text : List ℕ) (least : ℕ) where
    abbrev longer : List (List ℕ)
    longer = filter (λ prefix. nat_lt least (length prefix)) learned

    -- a longer learned one begins the text
    stands : (q : List ℕ) → is_among longer q ≡ true → begins_with text q ≡ true
        → (least < length q) × IsServed places passes (take (length q) text)
    stands q among begins =
        let parts = among_filter (λ prefix. nat_lt least (length prefix)) learned q among in
        let low = parts.1 in (
          grind (arith, nat_tests),
          subst (IsServed places passes) (begins_is text q begins)
              (learned_is_served sorted q parts.0),
        )

    none_learned : NoneIsServed places passes text least
        → None ≡ longest_learned learned text least
    none_learned none =
        sym (none_from longer text
        (λ q among begins. let s = stands q among begins in
        none (length q) s.0 (begins_within text q begins) s.1))

    some_learned : (p : List ℕ) → IsLongestServed places passes text least p
        → Some p ≡ longest_learned learned text least
    some_learned p l =
        sym (longest_from longer text p (record {
          listed = filter_keeps (λ prefix. nat_lt least (length prefix)) learned p
              (served_is_learned p some l.served) low;
          begins = begins_from text p l.begins;
          longest = at_most;
        }))
      where
        some : has_some p ≡ true
        some = let more = l.longer in grind (arith, nat_tests)

        low : nat_lt least (length p) ≡ true
        low = let more = l.longer in grind (arith, nat_tests)

        at_most : (q : List ℕ) → is_among longer q ≡ true → begins_with text q ≡ true
            → length q ≤ length p
        at_most q among begins = by (nat_lt (length p) (length q)) refl
          where
            by : (b : Bool) → nat_lt (length p) (length q) ≡ b → length q ≤ length p
            by true e =
                absurd (l.longest (length q) (grind (arith, nat_tests))
                (begins_within text q begins) (stands q among begins).1)
            by false e = grind (arith, nat_tests)

    pub longest_is_learned : (o : Option (List ℕ))
        → MatchOption o (NoneIsServed places passes text least)
        (IsLongestServed places passes text least)
        → o ≡ longest_learned learned text least
    longest_is_learned None h = none_learned h
    longest_is_learned (Some p) h = some_learned p h

-- ---- by trying lengths
module _ (places : Places) (passes : List ℕ → Bool) (longest : List ℕ)
    (within : AreWithin longest places) (text : List ℕ) (size : ℕ)
    (size_is : size ≡ min (length text) (longest_for longest text)) (most : ℕ) where
  -- as much of the text as a prefix may have
  abbrev front : List ℕ
  front = take size text

  kept : (o : Option ZoneNumbers) (zone : List ℕ) (number : ℕ) → found_in o zone number ≡ true
      → is_some o ≡ true
  kept None zone number h = absurd (both_ways false refl h)
  kept (Some zones) zone number h = refl

  -- what is served is a prefix of at most that length
  short : (q : List ℕ) → IsServed places passes q
      → (is_tech_prefix q ≡ true) × (length q ≤ longest_for longest q)
  short q s = within q (kept (kept_for places q) s.zone s.number s.there)

  -- a beginning has the same first character
  same_first : (count : ℕ) (t : List ℕ) → 1 ≤ count
      → longest_for longest (take count t) ≡ longest_for longest t
  same_first zero t some = absurd (omega (arith, some))
  same_first (suc count) [] some = refl
  same_first (suc count) (x ∷ xs) some = refl

  module _ (h : IsMost front most) where
    -- a beginning that a prefix may have is one of the front
    in_front : (count : ℕ) → count ≤ length text → count ≤ longest_for longest text
        → (count ≤ length front) × (take count front ≡ take count text)
    in_front count fits low =
        let whole : length front ≡ min size (length text) = length-take size text in
        let near : count ≤ size = omega (arith, size_is, fits, low) in
        (omega (arith, whole, size_is, near, fits), take-take count size text near)

    of_front : (count : ℕ) → count ≤ most
        → (count ≤ length text) × (count ≤ longest_for longest text)
    of_front count below =
        let whole : length front ≡ min size (length text) = length-take size text in (
          omega (arith, whole, size_is, below, h.front, h.whole),
          omega (arith, whole, size_is, below, h.front, h.whole),
        )

    pub may_be : (count : ℕ) → 1 ≤ count → count ≤ most → is_tech_prefix (take count text) ≡ true
    may_be count some below =
        let fits = of_front count below in
        ap is_tech_prefix (sym (in_front count fits.0 fits.1).1)
        ∙ may_be_prefix front most h count some below

    -- nothing longer is served
    past_most : (count : ℕ) → most < count → count ≤ length text
        → IsServed places passes (take count text) → ⊥
    past_most count past fits s =
        let long : length (take count text) ≡ min count (length text) = length-take count text in
        let own = short (take count text) s in
        let few = own.1 in
        let first = same_first count text (omega (arith, past)) in
        let near : count ≤ longest_for longest text = omega (arith, long, few, fits, first) in
        let front_has = in_front count fits near in
        true≢false (sym own.0 ∙ ap is_tech_prefix (sym front_has.1)
        ∙ may_not_be_prefix front most h count past front_has.0)

    -- what was tried, and nothing longer
    up_to : (count : ℕ) → count ≤ length text
        → (count ≤ most → IsServed places passes (take count text) → ⊥)
        → IsServed places passes (take count text) → ⊥
    up_to count fits tried s = by (nat_lt most count) refl
      where
        by : (b : Bool) → nat_lt most count ≡ b → ⊥
        by true e = past_most count (grind (arith, nat_tests)) fits s
        by false e = tried (grind (arith, nat_tests)) s

    pub longest_found : (least count : ℕ) (p : List ℕ) → least < count → count ≤ most
        → p ≡ take count text → IsServed places passes (take count text)
        → ((n : ℕ) → count < n → n ≤ most → IsServed places passes (take n text) → ⊥)
        → IsLongestServed places passes text least p
    longest_found least count p more below same s tried =
        let fits = (of_front count below).0 in
        let long : length p ≡ count = ap length same ∙ length_take count text fits in
        record {
          longer = omega (arith, long, more);
          within = omega (arith, long, fits);
          begins = same ∙ ap (λ n. take n text) (sym long);
          served = subst (IsServed places passes) (sym same) s;
          longest = λ n past all. up_to n all (tried n (omega (arith, long, past)));
        }

    pub none_found : (least : ℕ)
        → ((n : ℕ) → least < n → n ≤ most → IsServed places passes (take n text) → ⊥)
        → NoneIsServed places passes text least
    none_found least tried n more all = up_to n all (tried n more)
