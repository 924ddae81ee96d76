-- Which gateways serve a zone with a technology prefix: by prefix, the zones in which gateways
-- serve with it, and by zone their numbers in order.
use Rattle.std.specs.Prelude.{◌≡◌, ◌≤◌, ◌<◌, ◌⊎◌, ℕ, ◌==◌, Bool, true, false, not, cond, ◌&&◌, List, [], ◌∷◌, get_or, length, take, Option, Some, None, is_some, bytes_eq, if◌then◌else◌}
use Rattle.std.specs.BTreeMap.{is_at}
use Rattle.std.specs.Ordering.{nat_cmp}
use Rattle.std.specs.List.{list_any}
use Rattle.std.specs.Map.{lookup}
use Rattle.gk_terms.specs.TechPrefix.{is_tech_prefix}
use Rattle.registry.specs.Endpoint.{EndpointParts}
use Rattle.registry.specs.Gateway.{serves}

-- ---- the numbers of gateways
-- whether a number is one of these
abbrev pub has_gateway_number : List ℕ → ℕ → Bool
has_gateway_number numbers number = list_any (is_at (nat_cmp number)) numbers

-- whether nothing is listed
abbrev pub lists_none : {X : Type 0} → List X → Bool
lists_none [] = true
lists_none (first ∷ rest) = false

-- new has `there` for that number, and for each other number what old has
abbrev pub PutsNumber : List ℕ → List ℕ → ℕ → Bool → Type 0
PutsNumber old new number there =
    (other : ℕ) → has_gateway_number new other ≡ (if number == other then there else
    has_gateway_number old other)

-- no number from here on passes the test
abbrev pub HasNoneFrom : (ℕ → Bool) → ℕ → Type 0
HasNoneFrom test from = (number : ℕ) → from ≤ number → test number ≡ false

-- the least number from here on that passes the test
pub record IsLeastFrom (test : ℕ → Bool) (from number : ℕ) : Type 0 where
  pub there : test number ≡ true
  pub from_here : from ≤ number
  pub least : (other : ℕ) → from ≤ other → other < number → test other ≡ false

-- ---- lists by text
-- what is kept for a text
abbrev pub kept_for : {X : Type 0} → List (List ℕ × X) → List ℕ → Option X
kept_for entries text = lookup (bytes_eq text) entries

-- whether a list was found, and it is empty
abbrev pub found_empty : {X : Type 0} → Option (List X) → Bool
found_empty None = false
found_empty (Some xs) = lists_none xs

-- no empty list is kept
abbrev pub HasNoEmpty : {X : Type 0} → List (List ℕ × List X) → Type 0
HasNoEmpty entries = (text : List ℕ) → found_empty (kept_for entries text) ≡ false

-- new has what old has for each other text
abbrev pub KeepsOthers : {X : Type 0} → List (List ℕ × X) → List (List ℕ × X) → List ℕ → Type 0
KeepsOthers old new text =
    (other : List ℕ) → bytes_eq text other ≡ false → kept_for new other ≡ kept_for old other

-- new has this for the text, and what old has for each other
abbrev pub IsChangedFor : {X : Type 0} → List (List ℕ × X) → List (List ℕ × X) → List ℕ → Option X
    → Type 0
IsChangedFor old new text after =
    (other : List ℕ) → kept_for new other ≡ cond (bytes_eq text other) after (kept_for old other)

-- ---- the zones in which gateways serve with one prefix
-- by zone, the numbers of those that serve there
abbrev pub ZoneNumbers : Type 0
ZoneNumbers = List (List ℕ × List ℕ)

-- whether numbers were found, and this is one of them
abbrev pub found_number : Option (List ℕ) → ℕ → Bool
found_number None number = false
found_number (Some numbers) number = has_gateway_number numbers number

-- whether the gateway of a number serves in a zone
abbrev pub serves_in : ZoneNumbers → List ℕ → ℕ → Bool
serves_in zones zone number = found_number (kept_for zones zone) number

-- new has `there` for that number in that zone, and for each other what old has
abbrev pub PutsIn : ZoneNumbers → ZoneNumbers → List ℕ → ℕ → Bool → Type 0
PutsIn old new zone number there =
    (z : List ℕ) (n : ℕ)
    → serves_in new z n
    ≡ (if bytes_eq zone z && (number == n) then there else serves_in old z n)

-- some gateway serves in a zone that passes
pub record SomeServes (zones : ZoneNumbers) (passes : List ℕ → Bool) : Type 0 where
  pub zone : List ℕ
  pub number : ℕ
  pub passing : passes zone ≡ true
  pub there : serves_in zones zone number ≡ true

-- no gateway serves in a zone that passes
abbrev pub NoneServesIn : ZoneNumbers → (List ℕ → Bool) → Type 0
NoneServesIn zones passes =
    (zone : List ℕ) (number : ℕ) → passes zone ≡ true → serves_in zones zone number ≡ false

-- ---- places
-- by technology prefix, the zones in which gateways serve with it
abbrev pub Places : Type 0
Places = List (List ℕ × ZoneNumbers)

-- a zone, a technology prefix and the number of a gateway
abbrev pub Place : Type 0
Place = List ℕ × List ℕ × ℕ

abbrev pub same_place : Place → Place → Bool
same_place x y = bytes_eq x.0 y.0 && bytes_eq x.1 y.1 && (x.2 == y.2)

-- whether zones were found, and the gateway of a number serves in that one
abbrev pub found_in : Option ZoneNumbers → List ℕ → ℕ → Bool
found_in None zone number = false
found_in (Some zones) zone number = serves_in zones zone number

-- whether the gateway of a place's number serves there
abbrev pub serves_at : Places → Place → Bool
serves_at places place = found_in (kept_for places place.1) place.0 place.2

-- new has `there` for that place, and for each other place what old has
abbrev pub Puts : Places → Places → Place → Bool → Type 0
Puts old new place there =
    (other : Place)
    → serves_at new other ≡ (if same_place place other then there else serves_at old other)

-- whether an endpoint was found, and it serves
abbrev pub found_serving : Option EndpointParts → List ℕ → List ℕ → Bool
found_serving None zone prefix = false
found_serving (Some e) zone prefix = serves zone prefix e

-- whether a place is one of the endpoint under this number
abbrev pub is_of : ℕ → Option EndpointParts → Place → Bool
is_of number e place = (number == place.2) && found_serving e place.0 place.1

-- whether a place is one of the zone with one of the prefixes, under this number
abbrev pub is_partly_of : ℕ → List ℕ → List (List ℕ) → Place → Bool
is_partly_of number zone prefixes place =
    (number == place.2) && (bytes_eq zone place.0 && list_any (bytes_eq place.1) prefixes)

-- new has these places too
abbrev pub AddsPlaces : Places → Places → ℕ → List ℕ → List (List ℕ) → Type 0
AddsPlaces old new number zone prefixes =
    (place : Place) → serves_at new place
    ≡ (if is_partly_of number zone prefixes place then true else serves_at old place)

-- new may have some of these places too
abbrev pub MayAddPlaces : Places → Places → ℕ → List ℕ → List (List ℕ) → Type 0
MayAddPlaces old new number zone prefixes =
    (place : Place) → (serves_at new place ≡ serves_at old place)
    ⊎ ((serves_at new place ≡ true) × (is_partly_of number zone prefixes place ≡ true))

-- new lacks those of these places that the endpoint does not have
abbrev pub TakesOut : Places → Places → ℕ → List ℕ → List (List ℕ)
    → Option EndpointParts → Type 0
TakesOut old new number zone prefixes kept =
    (place : Place) → serves_at new place
    ≡ (if is_partly_of number zone prefixes place && not (is_of number kept place) then false
    else serves_at old place)

-- new has the places of the endpoint too
abbrev pub Enters : Places → Places → ℕ → EndpointParts → Type 0
Enters old new number e =
    (place : Place)
    → serves_at new place ≡ (if is_of number (Some e) place then true else serves_at old place)

-- new may have some places of the endpoint too
abbrev pub MayEnter : Places → Places → ℕ → EndpointParts → Type 0
MayEnter old new number e =
    (place : Place) → (serves_at new place ≡ serves_at old place)
    ⊎ ((serves_at new place ≡ true) × (is_of number (Some e) place ≡ true))

-- new lacks the places of one endpoint that the other does not have
abbrev pub Leaves : Places → Places → ℕ → Option EndpointParts → Option EndpointParts
    → Type 0
Leaves old new number gone kept =
    (place : Place) → serves_at new place
    ≡ (if is_of number gone place && not (is_of number kept place) then false
    else serves_at old place)

-- the least number from here on under which a gateway serves the zone with the prefix
abbrev pub IsNext : Places → List ℕ → List ℕ → ℕ → ℕ → Type 0
IsNext places zone prefix = IsLeastFrom (λ number. serves_at places (zone, prefix, number))

-- ---- prefixes that are served
-- what is kept for the first character of a text; 0 if it has none
abbrev pub longest_for : List ℕ → List ℕ → ℕ
longest_for longest [] = 0
longest_for longest (first ∷ rest) = get_or longest first 0

-- each is a technology prefix, of at most as many characters as are kept for its first one
abbrev pub AreWithin : List ℕ → Places → Type 0
AreWithin longest places =
    (prefix : List ℕ) → is_some (kept_for places prefix) ≡ true
    → (is_tech_prefix prefix ≡ true) × (length prefix ≤ longest_for longest prefix)

-- some gateway serves with the prefix, in a zone that passes
pub record IsServed (places : Places) (passes : List ℕ → Bool) (prefix : List ℕ) : Type 0 where
  pub zone : List ℕ
  pub number : ℕ
  pub passing : passes zone ≡ true
  pub there : serves_at places (zone, prefix, number) ≡ true

-- the longest prefix with which the text begins and with which some gateway serves in a zone that
-- passes, of those that have more characters than `least`
pub record IsLongestServed
    (places : Places) (passes : List ℕ → Bool) (text : List ℕ) (least : ℕ) (prefix : List ℕ)
    : Type 0 where
  pub longer : least < length prefix
  pub within : length prefix ≤ length text
  pub begins : prefix ≡ take (length prefix) text
  pub served : IsServed places passes prefix
  pub longest : (count : ℕ) → length prefix < count → count ≤ length text
      → IsServed places passes (take count text) → ⊥

-- there is none
abbrev pub NoneIsServed : Places → (List ℕ → Bool) → List ℕ → ℕ → Type 0
NoneIsServed places passes text least =
    (count : ℕ) → least < count → count ≤ length text → IsServed places passes (take count text)
    → ⊥
