-- What learned technology prefixes make of a plan, by the longest of all of them.
use Rattle.std.proofs.Common.{◌≡◌, ℕ, ◌<◌, Bool, true, false, nat_lt, ◌||◌, List, [], ◌∷◌, length, filter, Some, None, refl, sym, ◌∙◌, arith, true≢false}
use Rattle.std.specs.Prelude.{flat_map, bytes_eq, if◌then◌else◌}
use Rattle.std.proofs.lemmas.Bool.Decides.{nat_tests}
use Rattle.std.proofs.lemmas.List.Folds.{list_any-append}
use Rattle.gk_commands.specs.declared.commands.Command.{Command}
use Rattle.compiler.specs.Plan.{plan_after, plan_of}
use Rattle.compiler.specs.Technology.{begins_with, found_length, longest_learned, technology_of}
use Rattle.compiler.specs.TablesIndex.{is_among}
use Rattle.compiler.proofs.LearnedLemmas.{among_filter, is_longest, is_none, learned_is_longer, learned_is_no_longer, longest_from, none_from}
use Rattle.compiler.proofs.TechnologyLemmas.{filter_keeps}
use Rattle.registry.specs.Endpoint.{EndpointParts}
use Rattle.registry.specs.Gateway.{is_gateway}
use Rattle.registry.specs.Learned.{has_some, learned_prefixes, prefixes_given}
use Rattle.registry.specs.Registration.{kept_zones}
use Rattle.rulings.specs.Routing.{target_for}

-- ---- the longest of all, and the longest of those that are longer than some length
module _ (xs : List (List ℕ)) (digits : List ℕ) where
  abbrev longer : ℕ → List (List ℕ)
  longer least = filter (λ prefix. nat_lt least (length prefix)) xs

  -- one that is longer than that is longer than nothing
  some_longer : (least : ℕ) (q : List ℕ) → is_among (longer least) q ≡ true
      → (is_among (longer 0) q ≡ true) × (least < length q)
  some_longer least q among =
      let parts = among_filter (λ prefix. nat_lt least (length prefix)) xs q among in
      let low = parts.1 in
      let more : nat_lt 0 (length q) ≡ true = grind (arith, nat_tests) in (
        filter_keeps (λ prefix. nat_lt 0 (length prefix)) xs q parts.0 more,
        grind (arith, nat_tests),
      )

  pub none_above : (least : ℕ) → longest_learned xs digits 0 ≡ None
      → longest_learned xs digits least ≡ None
  none_above least none =
      none_from (longer least) digits
      (λ q among begins. is_none (longer 0) digits none q (some_longer least q among).0 begins)

  pub none_longer : (least : ℕ) (p : List ℕ) → longest_learned xs digits 0 ≡ Some p
      → nat_lt least (length p) ≡ false → longest_learned xs digits least ≡ None
  none_longer least p found low =
      let l = is_longest (longer 0) digits p found in
      none_from (longer least) digits
      (λ q among begins.
      let one = some_longer least q among in
      let most = l.longest q one.0 begins in
      let more = one.1 in
      let bad : ⊥ = grind (arith, nat_tests) in bad)

  pub longer_still : (least : ℕ) (p : List ℕ) → longest_learned xs digits 0 ≡ Some p
      → nat_lt least (length p) ≡ true → longest_learned xs digits least ≡ Some p
  longer_still least p found high =
      let l = is_longest (longer 0) digits p found in
      longest_from (longer least) digits p (record {
        listed = filter_keeps (λ prefix. nat_lt least (length prefix)) xs p
            (among_filter (λ prefix. nat_lt 0 (length prefix)) xs p l.listed).0 high;
        begins = l.begins;
        longest = λ q among begins. l.longest q (some_longer least q among).0 begins;
      })

-- ---- each learned prefix has a character
given_some : (e : EndpointParts) (q : List ℕ) → is_among (prefixes_given e) q ≡ true
    → has_some q ≡ true
given_some e q h = by (is_gateway e.kind) h
  where
    by : (b : Bool) → is_among (if b then filter has_some e.technologies else []) q ≡ true
        → has_some q ≡ true
    by true g = (among_filter has_some e.technologies q g).1
    by false g = absurd (true≢false (sym g))

all_some : (es : List EndpointParts) (q : List ℕ) → is_among (flat_map prefixes_given es) q ≡ true
    → has_some q ≡ true
all_some [] q h = absurd (true≢false (sym h))
all_some (e ∷ es) q h =
    by (is_among (prefixes_given e) q) refl
    (sym (list_any-append (λ one. bytes_eq one q) (prefixes_given e) (flat_map prefixes_given es))
    ∙ h) (all_some es q)
  where
    by : (b : Bool) → is_among (prefixes_given e) q ≡ b
        → (b || is_among (flat_map prefixes_given es) q) ≡ true
        → (is_among (flat_map prefixes_given es) q ≡ true → has_some q ≡ true)
        → has_some q ≡ true
    by true g one rest = given_some e q g
    by false g one rest = rest one

-- ---- plans
module _ (commands : List Command) (endpoints : List EndpointParts) (digits : List ℕ) where
  abbrev learned : List (List ℕ)
  learned = learned_prefixes commands endpoints

  some_characters : (q : List ℕ) → is_among learned q ≡ true → 0 < length q
  some_characters q among =
      let some = all_some (kept_zones commands endpoints) q among in grind (arith, nat_tests)

  abbrev declared : ℕ
  declared = found_length (technology_of commands digits)

  -- none is learned with which the digits begin
  pub none_learned : None ≡ longest_learned learned digits 0
      → plan_of commands digits ≡ target_for commands endpoints digits
  none_learned none =
      sym (learned_is_no_longer learned commands digits
      (none_above learned digits declared (sym none)) some_characters)

  -- none is longer than the declared one
  pub none_is_longer : (p : List ℕ) → Some p ≡ longest_learned learned digits 0
      → nat_lt declared (length p) ≡ false
      → plan_of commands digits ≡ target_for commands endpoints digits
  none_is_longer p found low =
      sym (learned_is_no_longer learned commands digits
      (none_longer learned digits declared p (sym found) low) some_characters)

  -- one is longer
  pub one_is_longer : (p : List ℕ) → Some p ≡ longest_learned learned digits 0
      → nat_lt declared (length p) ≡ true
      → plan_after commands digits p ≡ target_for commands endpoints digits
  one_is_longer p found high =
      sym (learned_is_longer learned commands digits p
      (longer_still learned digits declared p (sym found) high))

  -- and the digits begin with it
  pub begins_there : (p : List ℕ) → Some p ≡ longest_learned learned digits 0
      → begins_with digits p ≡ true
  begins_there p found = (is_longest (longer learned digits 0) digits p (sym found)).begins
