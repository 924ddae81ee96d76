-- The places that gateways serve, and what changes place by place.
use Rattle.std.proofs.Common.{◌≡◌, inl, inr, ℕ, ◌+◌, ◌<◌, ◌≤◌, ◌==◌, Bool, true, false, not, cond, ◌&&◌, ◌||◌, List, [], ◌∷◌, length, take, drop, get_or, refl, sym, ap, subst, ◌∙◌, arith}
use Rattle.std.specs.Prelude.{Option, Some, None, Result, Ok, Err, OnOk, OnErr, ◌⊎◌, is_some, bytes_eq, if◌then◌else◌}
use Rattle.std.specs.declared.cmp.Ordering.{Ordering}
use Rattle.std.specs.declared.cmp.Ordering.TheVariants.{Less, Equal, Greater}
use Rattle.std.specs.Ordering.{is_eq, is_gt, nat_cmp, MatchOrdering}
use Rattle.std.specs.Cmp.{nat_cmp_total, unsigned_tied}
use Rattle.std.specs.Cmp.Lexicographic.{same_text}
use Rattle.std.specs.List.{list_any}
use Rattle.std.proofs.lemmas.Bool.{both_ways, and_parts}
use Rattle.std.proofs.lemmas.Cmp.{nat_list_eq_equiv, ranked, tied_itself}
use Rattle.std.specs.Map.{keys_of}
use Rattle.std.proofs.lemmas.List.Folds.{Any-from_list_any, list_any-from_Any, list_any_more, list_any-append}
use Rattle.std.proofs.lemmas.Map.Made.{is_some-lookup}
use Rattle.gk_terms.specs.TechPrefix.{is_tech_prefix}
use Rattle.std.proofs.lemmas.List.{take-append-drop}
use Rattle.registry.specs.Endpoint.{EndpointParts, has_technology}
use Rattle.registry.specs.declared.endpoints.EndpointKind.TheVariants.{Gateway, Terminal}
use Rattle.registry.specs.Gateway.{is_gateway}
use Rattle.registry.specs.Served.{AreWithin, HasNoEmpty, IsChangedFor, IsServed, KeepsOthers, NoneServesIn, Place, Places, PutsIn, PutsNumber, SomeServes, ZoneNumbers, found_empty, found_in, found_number, has_gateway_number, kept_for, longest_for, same_place, serves_at, serves_in, Puts, found_serving, is_of, is_partly_of, AddsPlaces, MayAddPlaces, Enters, MayEnter, lists_none}

-- ---- the numbers of gateways
pub not_above : (a b : ℕ) → a ≤ b → is_gt (nat_cmp a b) ≡ false
not_above a b h = by (nat_cmp a b) (ranked a b (nat_cmp a b) refl)
  where
    by : (o : Ordering) → MatchOrdering o (a < b) (a ≡ b) (b < a) → is_gt o ≡ false
    by Less m = refl
    by Equal m = refl
    by Greater m = let never : ⊥ = omega (arith, m, h) in absurd never

-- ---- lists by text
pub same_kept : {X : Type 0} (entries : List (List ℕ × X)) (x y : List ℕ) → bytes_eq x y ≡ true
    → kept_for entries x ≡ kept_for entries y
same_kept entries x y h = ap (kept_for entries) (same_text x y (sym h))

-- another list is kept for one text, and it is not empty
pub no_empty_at : {X : Type 0} (old new : List (List ℕ × List X)) (text : List ℕ)
    (after : Option (List X)) → IsChangedFor old new text after → HasNoEmpty old
    → found_empty after ≡ false → HasNoEmpty new
no_empty_at old new text after changes whole some other =
    ap found_empty (changes other) ∙ by (bytes_eq text other)
  where
    by : (b : Bool) → found_empty (cond b after (kept_for old other)) ≡ false
    by true = some
    by false = whole other

-- a list became empty, and was then taken out
pub no_empty_left : {X : Type 0} (old mid new : List (List ℕ × List X)) (text : List ℕ)
    → IsChangedFor mid new text None → HasNoEmpty old → KeepsOthers old mid text → HasNoEmpty new
no_empty_left old mid new text changes whole others other =
    ap found_empty (changes other) ∙ by (bytes_eq text other) refl
  where
    by : (b : Bool) → bytes_eq text other ≡ b
        → found_empty (cond b None (kept_for mid other)) ≡ false
    by true same = refl
    by false apart = ap found_empty (others other apart) ∙ whole other

-- a list changed, and did not become empty
pub no_empty_kept : {X : Type 0} (old mid : List (List ℕ × List X)) (text : List ℕ)
    → KeepsOthers old mid text → HasNoEmpty old → found_empty (kept_for mid text) ≡ false
    → HasNoEmpty mid
no_empty_kept old mid text others whole some other = by (bytes_eq text other) refl
  where
    by : (b : Bool) → bytes_eq text other ≡ b → found_empty (kept_for mid other) ≡ false
    by true same = ap found_empty (sym (same_kept mid text other same)) ∙ some
    by false apart = ap found_empty (others other apart) ∙ whole other

-- ---- the zones of one prefix
-- new has other numbers in one zone, which differ by one number
pub puts_in : (old new : ZoneNumbers) (zone : List ℕ) (after : Option (List ℕ))
    → IsChangedFor old new zone after → (number : ℕ) (there : Bool)
    → ((n : ℕ) → found_number after n
    ≡ (if number == n then there else found_number (kept_for old zone) n))
    → PutsIn old new zone number there
puts_in old new zone after changes number there puts z n =
    ap (λ o. found_number o n) (changes z) ∙ by (bytes_eq zone z) refl
  where
    by : (b : Bool) → bytes_eq zone z ≡ b
        → found_number (cond b after (kept_for old z)) n
        ≡ (if (b && (number == n)) then there else found_number (kept_for old z) n)
    by true same =
        puts n
        ∙ ap (λ o. if number == n then there else found_number o n) (same_kept old zone z same)
    by false same = refl

-- the last number of a zone was taken out, and then its entry
pub none_left_in : (mid new : ZoneNumbers) (zone : List ℕ) → IsChangedFor mid new zone None
    → found_empty (kept_for mid zone) ≡ true → (z : List ℕ) (n : ℕ)
    → serves_in new z n ≡ serves_in mid z n
none_left_in mid new zone changes empty z n =
    ap (λ o. found_number o n) (changes z) ∙ by (bytes_eq zone z) refl
  where
    none : (o : Option (List ℕ)) → found_empty o ≡ true → false ≡ found_number o n
    none None h = refl
    none (Some []) h = refl
    none (Some (first ∷ rest)) h = absurd (both_ways false refl h)

    by : (b : Bool) → bytes_eq zone z ≡ b
        → found_number (cond b None (kept_for mid z)) n ≡ serves_in mid z n
    by true same =
        none (kept_for mid zone) empty ∙ ap (λ o. found_number o n) (same_kept mid zone z same)
    by false same = refl

-- what a number was added to is not empty
pub added_some : (old new : List ℕ) (number : ℕ) → PutsNumber old new number true
    → lists_none new ≡ false
added_some old new number puts =
    by new (puts number
    ∙ ap (λ b. if b then true else has_gateway_number old number)
    (sym (unsigned_tied number number) ∙ ap is_eq (tied_itself nat_cmp_total number)))
  where
    by : (numbers : List ℕ) → has_gateway_number numbers number ≡ true → lists_none numbers ≡ false
    by [] has = absurd (both_ways false refl has)
    by (first ∷ rest) has = refl

-- zones in which a gateway was put are not empty
pub put_some : (old new : ZoneNumbers) (zone : List ℕ) (number : ℕ)
    → PutsIn old new zone number true → lists_none new ≡ false
put_some old new zone number puts =
    by new (puts zone number
    ∙ ap (λ b. if b && (number == number) then true else serves_in old zone number)
    (nat_list_eq_equiv.refl zone)
    ∙ ap (λ b. if b then true else serves_in old zone number)
    (sym (unsigned_tied number number) ∙ ap is_eq (tied_itself nat_cmp_total number)))
  where
    by : (zones : ZoneNumbers) → serves_in zones zone number ≡ true → lists_none zones ≡ false
    by [] has = absurd (both_ways false refl has)
    by (first ∷ rest) has = refl

-- a list to which something may have been added is not empty
pub some_stay : {T E A X : Type 0} → (old new : List X) (r : Result T E)
    → OnOk r A → OnErr r (new ≡ old) → (A → lists_none new ≡ false) → lists_none old ≡ false
    → lists_none new ≡ false
some_stay old new (Ok x) puts same added some = added puts
some_stay old new (Err e) puts same added some = ap lists_none same ∙ some

-- a list of keys of which one passes, or none
pub some_local : (passes : List ℕ → Bool) (entries : ZoneNumbers) → HasNoEmpty entries
    → list_any passes (keys_of entries) ≡ true → SomeServes entries passes
some_local passes entries whole any =
    let found = Any-from_list_any passes (keys_of entries) any in
    let zone = found.1 in
    let there : is_some (kept_for entries zone) ≡ true =
    is_some-lookup (bytes_eq zone) entries
    ∙ list_any-from_Any (bytes_eq zone) (keys_of entries)
    (found.0, zone, found.2, found.3, nat_list_eq_equiv.refl zone) in
    by zone found.4 (kept_for entries zone) refl there (whole zone)
  where
    by : (zone : List ℕ) → passes zone ≡ true → (o : Option (List ℕ))
        → kept_for entries zone ≡ o → is_some o ≡ true → found_empty o ≡ false
        → SomeServes entries passes
    by zone passing None e there some = absurd (both_ways false refl there)
    by zone passing (Some []) e there some = absurd (both_ways true some refl)
    by zone passing (Some (number ∷ rest)) e there some = record {
      zone = zone;
      number = number;
      passing = passing;
      there = ap (λ o. found_number o number) e
          ∙ ap (λ b. b || has_gateway_number rest number)
          (ap is_eq (tied_itself nat_cmp_total number));
    }

pub none_local : (passes : List ℕ → Bool) (entries : ZoneNumbers)
    → list_any passes (keys_of entries) ≡ false → NoneServesIn entries passes
none_local passes entries none zone number passing =
    by (serves_in entries zone number) refl
  where
    kept : (o : Option (List ℕ)) → found_number o number ≡ true → is_some o ≡ true
    kept None h = absurd (both_ways false refl h)
    kept (Some numbers) h = refl

    by : (b : Bool) → serves_in entries zone number ≡ b → serves_in entries zone number ≡ false
    by true h =
        let there = sym (is_some-lookup (bytes_eq zone) entries) ∙ kept (kept_for entries zone) h in
        let found = Any-from_list_any (bytes_eq zone) (keys_of entries) there in
        absurd (both_ways (list_any passes (keys_of entries)) none
        (list_any-from_Any passes (keys_of entries) (
          found.0,
          found.1,
          found.2,
          found.3,
          ap passes (sym (same_text zone found.1 (sym found.4))) ∙ passing,
        )))
    by false h = h

-- ---- the zones at a prefix
-- new has other zones at one prefix, which differ by one number in one zone
pub puts_at : (old new : Places) (prefix : List ℕ) (after : Option ZoneNumbers)
    → IsChangedFor old new prefix after → (zone : List ℕ) (number : ℕ) (there : Bool)
    → ((z : List ℕ) (n : ℕ) → found_in after z n
    ≡ (if bytes_eq zone z && (number == n) then there else found_in (kept_for old prefix) z n))
    → Puts old new (zone, prefix, number) there
puts_at old new prefix after changes zone number there puts place =
    ap (λ o. found_in o place.0 place.2) (changes place.1)
    ∙ by (bytes_eq prefix place.1) refl (bytes_eq zone place.0) refl
  where
    by : (b : Bool) → bytes_eq prefix place.1 ≡ b → (z : Bool) → bytes_eq zone place.0 ≡ z
        → found_in (cond b after (kept_for old place.1)) place.0 place.2
        ≡ (if ((z && b) && (number == place.2)) then there
        else found_in (kept_for old place.1) place.0 place.2)
    by true same true here =
        puts place.0 place.2
        ∙ ap (λ t. if t && (number == place.2) then there
        else found_in (kept_for old prefix) place.0 place.2) here
        ∙ ap (λ o. if number == place.2 then there else found_in o place.0 place.2)
        (same_kept old prefix place.1 same)
    by true same false here =
        puts place.0 place.2
        ∙ ap (λ t. if t && (number == place.2) then there
        else found_in (kept_for old prefix) place.0 place.2) here
        ∙ ap (λ o. found_in o place.0 place.2) (same_kept old prefix place.1 same)
    by false apart true here = refl
    by false apart false here = refl

-- the last zone of a prefix was taken out, and then its entry
pub none_left : (mid new : Places) (prefix : List ℕ) → IsChangedFor mid new prefix None
    → found_empty (kept_for mid prefix) ≡ true → (place : Place)
    → serves_at new place ≡ serves_at mid place
none_left mid new prefix changes empty place =
    ap (λ o. found_in o place.0 place.2) (changes place.1) ∙ by (bytes_eq prefix place.1) refl
  where
    none : (o : Option ZoneNumbers) → found_empty o ≡ true → false ≡ found_in o place.0 place.2
    none None h = refl
    none (Some []) h = refl
    none (Some (first ∷ rest)) h = absurd (both_ways false refl h)

    by : (b : Bool) → bytes_eq prefix place.1 ≡ b
        → found_in (cond b None (kept_for mid place.1)) place.0 place.2 ≡ serves_at mid place
    by true same =
        none (kept_for mid prefix) empty
        ∙ ap (λ o. found_in o place.0 place.2) (same_kept mid prefix place.1 same)
    by false same = refl

-- ---- how long a prefix is
-- what is kept for one more prefix
pub within_more : (old new : Places) (prefix : List ℕ) (after : Option ZoneNumbers)
    (longest longer : List ℕ) → IsChangedFor old new prefix after → AreWithin longest old
    → ((other : List ℕ) → longest_for longest other ≤ longest_for longer other)
    → is_tech_prefix prefix ≡ true → length prefix ≤ longest_for longer prefix
    → AreWithin longer new
within_more old new prefix after longest longer changes within more text fits other there =
    by (bytes_eq prefix other) refl
  where
    by : (b : Bool) → bytes_eq prefix other ≡ b
        → (is_tech_prefix other ≡ true) × (length other ≤ longest_for longer other)
    by true same =
        subst (λ q. (is_tech_prefix q ≡ true) × (length q ≤ longest_for longer q))
        (same_text prefix other (sym same)) (text, fits)
    by false apart =
        let before = within other
        (ap is_some (sym (changes other
        ∙ ap (λ b. cond b after (kept_for old other)) apart)) ∙ there) in
        let short = before.1 in
        let far = more other in
        (before.0, omega (arith, short, far))

-- a prefix has other zones than before
pub within_same : (old new : Places) (prefix : List ℕ) (after : ZoneNumbers) (longest : List ℕ)
    → IsChangedFor old new prefix (Some after) → is_some (kept_for old prefix) ≡ true
    → AreWithin longest old → AreWithin longest new
within_same old new prefix after longest changes had within =
    let own = within prefix had in
    within_more old new prefix (Some after) longest longest changes within (λ other. omega arith)
    own.0 own.1

-- a prefix has other zones, or none as before
pub within_kept : (old mid : Places) (prefix : List ℕ) (longest : List ℕ) → KeepsOthers old mid prefix
    → is_some (kept_for mid prefix) ≡ is_some (kept_for old prefix) → AreWithin longest old
    → AreWithin longest mid
within_kept old mid prefix longest others same within other there =
    by (bytes_eq prefix other) refl
  where
    by : (b : Bool) → bytes_eq prefix other ≡ b
        → (is_tech_prefix other ≡ true) × (length other ≤ longest_for longest other)
    by true own =
        within other
        (ap is_some (sym (same_kept old prefix other own)) ∙ sym same
        ∙ ap is_some (same_kept mid prefix other own) ∙ there)
    by false apart = within other (ap is_some (sym (others other apart)) ∙ there)

-- a prefix is gone
pub within_less : (old mid new : Places) (prefix : List ℕ) (longest : List ℕ)
    → IsChangedFor mid new prefix None → KeepsOthers old mid prefix → AreWithin longest old
    → AreWithin longest new
within_less old mid new prefix longest changes others within other there =
    by (bytes_eq prefix other) refl
  where
    by : (b : Bool) → bytes_eq prefix other ≡ b
        → (is_tech_prefix other ≡ true) × (length other ≤ longest_for longest other)
    by true same =
        absurd (both_ways (is_some (kept_for new other))
        (ap is_some (changes other ∙ ap (λ b. cond b None (kept_for mid other)) same)) there)
    by false apart =
        within other
        (ap is_some (sym (changes other ∙ ap (λ b. cond b None (kept_for mid other)) apart
        ∙ others other apart)) ∙ there)

-- ---- one place more or less
-- one more prefix of the list
more_prefixes : (prefixes : List (List ℕ)) (i : ℕ) (next : List ℕ) (place : Place)
    → i < length prefixes → next ≡ get_or prefixes i next
    → list_any (bytes_eq place.1) (take (i + 1) prefixes)
    ≡ (list_any (bytes_eq place.1) (take i prefixes) || bytes_eq next place.1)
more_prefixes prefixes i next place within there =
    list_any_more (bytes_eq place.1) prefixes i next within
    ∙ ap (λ b. list_any (bytes_eq place.1) (take i prefixes) || b)
    (ap (bytes_eq place.1) (sym there) ∙ nat_list_eq_equiv.symm place.1 next)

-- one more prefix is entered
pub entered_more : (old mid new : Places) (number : ℕ) (zone : List ℕ)
    (prefixes : List (List ℕ)) (i : ℕ) (next : List ℕ)
    → i < length prefixes → next ≡ get_or prefixes i next
    → ((place : Place) → serves_at mid place
    ≡ (if is_partly_of number zone (take i prefixes) place then true else serves_at old place))
    → Puts mid new (zone, next, number) true
    → (place : Place) → serves_at new place
    ≡ (if is_partly_of number zone (take (i + 1) prefixes) place then true
    else serves_at old place)
entered_more old mid new number zone prefixes i next within there before puts place =
    puts place
    ∙ ap (λ b. if same_place (zone, next, number) place then true else b) (before place)
    ∙ by (bytes_eq zone place.0) (bytes_eq next place.1) (number == place.2)
    (list_any (bytes_eq place.1) (take i prefixes)) (serves_at old place)
    ∙ ap (λ l. if (number == place.2) && (bytes_eq zone place.0 && l) then true
    else serves_at old place)
    (sym (more_prefixes prefixes i next place within there))
  where
    by : (z p n l o : Bool)
        → (if ((z && p) && n) then true else (if (n && (z && l)) then true else o))
        ≡ (if (n && (z && (l || p))) then true else o)
    by false p false l o = refl
    by false p true l o = refl
    by true false false l o = refl
    by true false true false o = refl
    by true false true true o = refl
    by true true false l o = refl
    by true true true false o = refl
    by true true true true o = refl

-- one more prefix is left, unless the other endpoint has it
module _ (old mid new : Places) (number : ℕ) (zone : List ℕ) (kept : Option EndpointParts)
    (prefixes : List (List ℕ)) (i : ℕ) (next : List ℕ) where
  -- what is left so far
  abbrev left_of : ℕ → Place → Bool
  left_of j place =
      if is_partly_of number zone (take j prefixes) place && not (is_of number kept place)
      then false else serves_at old place

  module _ (within : i < length prefixes) (there : next ≡ get_or prefixes i next)
      (before : (place : Place) → serves_at mid place ≡ left_of i place) where
    abbrev by_tests : (z p n l k o : Bool) → Bool
    by_tests z p n l k o = if (n && (z && (l || p))) && not (n && k) then false else o

    joined : (place : Place)
        → by_tests (bytes_eq zone place.0) (bytes_eq next place.1) (number == place.2)
        (list_any (bytes_eq place.1) (take i prefixes)) (found_serving kept place.0 place.1)
        (serves_at old place) ≡ left_of (i + 1) place
    joined place =
        ap (λ l. if ((number == place.2) && (bytes_eq zone place.0 && l))
        && not (is_of number kept place) then false else serves_at old place)
        (sym (more_prefixes prefixes i next place within there))

    -- the tests of this very place
    here : (place : Place) → bytes_eq zone place.0 ≡ true → bytes_eq next place.1 ≡ true
        → found_serving kept place.0 place.1 ≡ found_serving kept zone next
    here place z p =
        ap (λ x. found_serving kept x place.1) (sym (same_text zone place.0 (sym z)))
        ∙ ap (found_serving kept zone) (sym (same_text next place.1 (sym p)))

    pub left_more : found_serving kept zone next ≡ false → Puts mid new (zone, next, number) false
        → (place : Place) → serves_at new place ≡ left_of (i + 1) place
    left_more absent puts place =
        puts place
        ∙ ap (λ b. if same_place (zone, next, number) place then false else b) (before place)
        ∙ by (bytes_eq zone place.0) (bytes_eq next place.1) (number == place.2)
        (list_any (bytes_eq place.1) (take i prefixes)) (found_serving kept place.0 place.1)
        (serves_at old place) (λ z p. here place z p ∙ absent)
        ∙ joined place
      where
        by : (z p n l k o : Bool) → (z ≡ true → p ≡ true → k ≡ false)
            → (if ((z && p) && n) then false
            else (if ((n && (z && l)) && not (n && k)) then false else o))
            ≡ by_tests z p n l k o
        by false p false l k o f = refl
        by false p true l k o f = refl
        by true false false l k o f = refl
        by true false true false k o f = refl
        by true false true true k o f = refl
        by true true false l k o f = refl
        by true true true l false o f = shown l
          where
            shown : (m : Bool) → false ≡ by_tests true true true m false o
            shown true = refl
            shown false = refl
        by true true true l true o f = absurd (both_ways true (f refl refl) refl)

    pub kept_more : found_serving kept zone next ≡ true
        → (place : Place) → serves_at mid place ≡ left_of (i + 1) place
    kept_more present place =
        before place
        ∙ by (bytes_eq zone place.0) (bytes_eq next place.1) (number == place.2)
        (list_any (bytes_eq place.1) (take i prefixes)) (found_serving kept place.0 place.1)
        (serves_at old place) (λ z p. here place z p ∙ present)
        ∙ joined place
      where
        by : (z p n l k o : Bool) → (z ≡ true → p ≡ true → k ≡ true)
            → (if ((n && (z && l)) && not (n && k)) then false else o) ≡ by_tests z p n l k o
        by false p false l k o f = refl
        by false p true l k o f = refl
        by true false false l k o f = refl
        by true false true false k o f = refl
        by true false true true k o f = refl
        by true true false l k o f = refl
        by true true true false true o f = refl
        by true true true true true o f = refl
        by true true true l false o f = absurd (both_ways false refl (f refl refl))

-- ---- the places of an endpoint
gateway_places : (e : EndpointParts) (number : ℕ) → e.kind ≡ Gateway → (place : Place)
    → is_partly_of number e.zone e.technologies place ≡ is_of number (Some e) place
gateway_places e number kind place =
    ap (λ k. (number == place.2)
    && ((is_gateway k && bytes_eq e.zone place.0) && has_technology e place.1)) (sym kind)

terminal_places : (e : EndpointParts) (number : ℕ) → e.kind ≡ Terminal → (place : Place)
    → is_of number (Some e) place ≡ false
terminal_places e number kind place =
    ap (λ k. (number == place.2)
    && ((is_gateway k && bytes_eq e.zone place.0) && has_technology e place.1)) kind
    ∙ by (number == place.2)
  where
    by : (b : Bool) → (b && false) ≡ false
    by true = refl
    by false = refl

pub gateway_enters : (e : EndpointParts) (number : ℕ) (old new : Places) → e.kind ≡ Gateway
    → AddsPlaces old new number e.zone e.technologies → Enters old new number e
gateway_enters e number old new kind adds place =
    adds place
    ∙ ap (λ b. if b then true else serves_at old place) (gateway_places e number kind place)

pub gateway_may_enter : (e : EndpointParts) (number : ℕ) (old new : Places) → e.kind ≡ Gateway
    → MayAddPlaces old new number e.zone e.technologies → MayEnter old new number e
gateway_may_enter e number old new kind adds place = by (adds place)
  where
    by : (serves_at new place ≡ serves_at old place)
        ⊎ ((serves_at new place ≡ true)
        × (is_partly_of number e.zone e.technologies place ≡ true))
        → (serves_at new place ≡ serves_at old place)
        ⊎ ((serves_at new place ≡ true) × (is_of number (Some e) place ≡ true))
    by (inl same) = inl same
    by (inr more) = inr (more.0, sym (gateway_places e number kind place) ∙ more.1)

pub terminal_enters : (e : EndpointParts) (number : ℕ) (old : Places) → e.kind ≡ Terminal
    → Enters old old number e
terminal_enters e number old kind place =
    ap (λ b. if b then true else serves_at old place) (sym (terminal_places e number kind place))

-- some prefixes of a list
pub part_added : (old new : Places) (number : ℕ) (zone : List ℕ) (prefixes : List (List ℕ))
    (i : ℕ) → AddsPlaces old new number zone (take i prefixes) → MayAddPlaces old new number zone
    prefixes
part_added old new number zone prefixes i adds place =
    by (is_partly_of number zone (take i prefixes) place) refl (adds place)
  where
    by : (b : Bool) → is_partly_of number zone (take i prefixes) place ≡ b
        → serves_at new place ≡ (if b then true else serves_at old place)
        → (serves_at new place ≡ serves_at old place)
        ⊎ ((serves_at new place ≡ true) × (is_partly_of number zone prefixes place ≡ true))
    by false known there = inl there
    by true known there =
        let parts = all (number == place.2) (bytes_eq zone place.0)
        (list_any (bytes_eq place.1) (take i prefixes)) known in
        inr (there, (λ j. parts.0 j && (parts.1 j && whole place.1 parts.2 j)))
      where
        -- what some prefixes have, all have
        whole : (prefix : List ℕ) → list_any (bytes_eq prefix) (take i prefixes) ≡ true
            → list_any (bytes_eq prefix) prefixes ≡ true
        whole prefix h =
            ap (list_any (bytes_eq prefix)) (sym (take-append-drop i prefixes))
            ∙ list_any-append (bytes_eq prefix) (take i prefixes) (drop i prefixes)
            ∙ ap (λ b. b || list_any (bytes_eq prefix) (drop i prefixes)) h

        all : (n z l : Bool) → (n && (z && l)) ≡ true → (n ≡ true) × (z ≡ true) × (l ≡ true)
        all n z l h =
            let outer = and_parts n (z && l) h in
            let inner = and_parts z l outer.1 in
            (outer.0, inner.0, inner.1)

-- what follows at Ok, and at Err
pub at_ok : {T E P Q : Type 0} → (P → Q) → (r : Result T E) → OnOk r P → OnOk r Q
at_ok f (Ok x) h = f h
at_ok f (Err e) h = tt

pub at_err : {T E P Q : Type 0} → (P → Q) → (r : Result T E) → OnErr r P → OnErr r Q
at_err f (Ok x) h = tt
at_err f (Err e) h = f h

-- ---- prefixes that are served
-- what is kept for a prefix says whether it is served
pub served_from : (places : Places) (passes : List ℕ → Bool) (prefix : List ℕ)
    (zones : ZoneNumbers) → Some zones ≡ kept_for places prefix → SomeServes zones passes
    → IsServed places passes prefix
served_from places passes prefix zones kept s = record {
  zone = s.zone;
  number = s.number;
  passing = s.passing;
  there = ap (λ o. found_in o s.zone s.number) (sym kept) ∙ s.there;
}

pub served_nowhere : (places : Places) (passes : List ℕ → Bool) (prefix : List ℕ)
    (zones : ZoneNumbers) → Some zones ≡ kept_for places prefix → NoneServesIn zones passes
    → IsServed places passes prefix → ⊥
served_nowhere places passes prefix zones kept none s =
    both_ways (serves_in zones s.zone s.number) (none s.zone s.number s.passing)
    (ap (λ o. found_in o s.zone s.number) kept ∙ s.there)
