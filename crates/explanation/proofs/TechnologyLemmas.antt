-- The longest technology prefix of those that are declared and those that are learned.
use Rattle.std.proofs.Common.{◌≡◌, ℕ, ◌||◌, ◌<◌, ◌≤◌, Bool, true, false, nat_lt, List, [], ◌∷◌, ◌++◌, length, filter, Some, None, refl, sym, ap, ◌∙◌, arith, true≢false}
use Rattle.std.specs.Prelude.{Option, IfSome, flat_map, bytes_eq, if◌then◌else◌}
use Rattle.std.proofs.lemmas.Bool.Decides.{nat_tests}
use Rattle.std.proofs.lemmas.List.Folds.{list_any-append}
use Rattle.gk_commands.specs.declared.commands.Command.{Command}
use Rattle.compiler.specs.Technology.{prefixes_of, begins_with, technology_of, technology_among, longest_learned, found_length}
use Rattle.compiler.specs.TablesIndex.{is_among}
use Rattle.compiler.proofs.LearnedLemmas.{IsLongestOf, among_filter, is_longest, is_none, longest_from, none_from}
use Rattle.compiler.proofs.TechnologyLemmas.{filter_keeps}
use Rattle.registry.specs.Endpoint.{EndpointParts}
use Rattle.registry.specs.Gateway.{is_gateway}
use Rattle.registry.specs.Learned.{has_some, learned_prefixes, prefixes_given}
use Rattle.registry.specs.Registration.{kept_zones}

-- ---- two lists
among_both : (xs ys : List (List ℕ)) (q : List ℕ)
    → is_among (xs ++ ys) q ≡ (is_among xs q || is_among ys q)
among_both xs ys q = list_any-append (λ one. bytes_eq one q) xs ys

-- of the longer ones of a list
abbrev longer_ones : List (List ℕ) → ℕ → List (List ℕ)
longer_ones learned least = filter (λ prefix. nat_lt least (length prefix)) learned

later : (t b : Bool) → b ≡ true → (t || b) ≡ true
later true b e = refl
later false b e = e

-- ---- beside the declared prefixes
module _ (learned : List (List ℕ)) (commands : List Command) (digits : List ℕ) where
  -- one of both is one of the learned or one of the declared
  split : (q : List ℕ) {A : Type 0} → is_among (learned ++ prefixes_of commands) q ≡ true
      → (is_among learned q ≡ true → A) → (is_among (prefixes_of commands) q ≡ true → A) → A
  split q {A} h one two =
      by (is_among learned q) refl (sym (among_both learned (prefixes_of commands) q) ∙ h)
    where
      by : (t : Bool) → is_among learned q ≡ t → (t || is_among (prefixes_of commands) q) ≡ true → A
      by true e g = one e
      by false e g = two g

  first_among : (q : List ℕ) → is_among learned q ≡ true
      → is_among (learned ++ prefixes_of commands) q ≡ true
  first_among q h =
      among_both learned (prefixes_of commands) q
      ∙ ap (λ t. t || is_among (prefixes_of commands) q) h

  second_among : (q : List ℕ) → is_among (prefixes_of commands) q ≡ true
      → is_among (learned ++ prefixes_of commands) q ≡ true
  second_among q h =
      among_both learned (prefixes_of commands) q
      ∙ later (is_among learned q) (is_among (prefixes_of commands) q) h

  -- none longer than this is learned, so each is at most as long
  at_most : (least : ℕ) → longest_learned learned digits least ≡ None
      → (q : List ℕ) → is_among learned q ≡ true → begins_with digits q ≡ true → length q ≤ least
  at_most least none q there begins = by (nat_lt least (length q)) refl
    where
      by : (t : Bool) → nat_lt least (length q) ≡ t → length q ≤ least
      by true e =
          absurd (is_none (longer_ones learned least) digits none q
          (filter_keeps (λ prefix. nat_lt least (length prefix)) learned q there e) begins)
      by false e = grind (arith, nat_tests)

  same_technology : (declared : Option (List ℕ)) → technology_of commands digits ≡ declared
      → longest_learned learned digits (found_length declared) ≡ None
      → ((q : List ℕ) → is_among learned q ≡ true → 0 < length q)
      → technology_among learned commands digits ≡ declared
  same_technology None e none some =
      none_from (learned ++ prefixes_of commands) digits (λ q h begins.
      split q h
      (λ there. let short = at_most 0 none q there begins in
      let long = some q there in omega (arith, short, long))
      (λ there. is_none (prefixes_of commands) digits e q there begins))
  same_technology (Some p) e none some =
      let l = is_longest (prefixes_of commands) digits p e in
      longest_from (learned ++ prefixes_of commands) digits p (record {
        listed = second_among p l.listed;
        begins = l.begins;
        longest = λ q h begins. split q h (λ there. at_most (length p) none q there begins)
            (λ there. l.longest q there begins);
      })

  -- what is declared and begins the digits is at most as long as what was found
  declared_within : (declared : Option (List ℕ)) → technology_of commands digits ≡ declared
      → (q : List ℕ) → is_among (prefixes_of commands) q ≡ true → begins_with digits q ≡ true
      → length q ≤ found_length declared
  declared_within None e q there begins =
      absurd (is_none (prefixes_of commands) digits e q there begins)
  declared_within (Some p) e q there begins =
      (is_longest (prefixes_of commands) digits p e).longest q there begins

  module _ (prefix : List ℕ) (declared : Option (List ℕ))
      (e : technology_of commands digits ≡ declared)
      (h : longest_learned learned digits (found_length declared) ≡ Some prefix) where
    abbrev least : ℕ
    least = found_length declared

    found : IsLongestOf (longer_ones learned least) digits prefix
    found = is_longest (longer_ones learned least) digits prefix h

    is_there : (is_among learned prefix ≡ true) × (nat_lt least (length prefix) ≡ true)
    is_there = among_filter (λ p. nat_lt least (length p)) learned prefix found.listed

    is_long : least < length prefix
    is_long = let low = is_there.1 in grind (arith, nat_tests)

    longer_technology : technology_among learned commands digits ≡ Some prefix
    longer_technology =
        longest_from (learned ++ prefixes_of commands) digits prefix (record {
          listed = first_among prefix is_there.0;
          begins = found.begins;
          longest = λ q there begins. split q there (λ one. of_learned q one begins)
              (λ two. let short = declared_within declared e q two begins in
              let long = is_long in omega (arith, short, long));
        })
      where
        of_learned : (q : List ℕ) → is_among learned q ≡ true → begins_with digits q ≡ true
            → length q ≤ length prefix
        of_learned q one begins = by (nat_lt least (length q)) refl
          where
            by : (t : Bool) → nat_lt least (length q) ≡ t → length q ≤ length prefix
            by true i =
                found.longest q (filter_keeps (λ p. nat_lt least (length p)) learned q one i) begins
            by false i = let long = is_long in grind (arith, nat_tests)

-- ---- each learned prefix has a character
given_some : (e : EndpointParts) (q : List ℕ) → is_among (prefixes_given e) q ≡ true
    → has_some q ≡ true
given_some e q h = by (is_gateway e.kind) h
  where
    by : (b : Bool) → is_among (if b then filter has_some e.technologies else []) q ≡ true
        → has_some q ≡ true
    by true g = (among_filter has_some e.technologies q g).1
    by false g = absurd (true≢false (sym g))

all_some : (es : List EndpointParts) (q : List ℕ) → is_among (flat_map prefixes_given es) q ≡ true
    → has_some q ≡ true
all_some [] q h = absurd (true≢false (sym h))
all_some (e ∷ es) q h =
    by (is_among (prefixes_given e) q) refl
    (sym (list_any-append (λ one. bytes_eq one q) (prefixes_given e) (flat_map prefixes_given es))
    ∙ h) (all_some es q)
  where
    by : (b : Bool) → is_among (prefixes_given e) q ≡ b
        → (b || is_among (flat_map prefixes_given es) q) ≡ true
        → (is_among (flat_map prefixes_given es) q ≡ true → has_some q ≡ true)
        → has_some q ≡ true
    by true g one rest = given_some e q g
    by false g one rest = rest one

-- ---- of a configuration with its endpoints
module _ (commands : List Command) (endpoints : List EndpointParts) (digits : List ℕ) where
  abbrev learned : List (List ℕ)
  learned = learned_prefixes commands endpoints

  -- none that is learned is longer than the declared one
  pub declared_is : (declared : Option (List ℕ)) → declared ≡ technology_of commands digits
      → None ≡ longest_learned learned digits (found_length declared)
      → declared ≡ technology_among learned commands digits
  declared_is declared is none =
      sym (same_technology learned commands digits declared (sym is) (sym none)
      (λ q among. let some = all_some (kept_zones commands endpoints) q among in
      grind (arith, nat_tests)))

  -- one is
  pub learned_is : (prefix : List ℕ) (declared : Option (List ℕ))
      → declared ≡ technology_of commands digits
      → Some prefix ≡ longest_learned learned digits (found_length declared)
      → Some prefix ≡ technology_among learned commands digits
  learned_is prefix declared is found =
      sym (longer_technology learned commands digits prefix declared (sym is) (sym found))

  -- the digits begin with what was found
  pub begins_if_found : (o : Option (List ℕ)) → o ≡ technology_among learned commands digits
      → IfSome o (λ prefix. begins_with digits prefix ≡ true)
  begins_if_found None is = tt
  begins_if_found (Some prefix) is =
      (is_longest (learned ++ prefixes_of commands) digits prefix (sym is)).begins
