-- The aliases, and the places that gateways serve, beside the endpoints by number.
use Rattle.std.specs.Prelude.{◌≡◌, ◌<◌, ◌≤◌, ℕ, Bool, true, false, not, ◌&&◌, List, [], find, Option, Some, None, bytes_eq, if◌then◌else◌}
use Rattle.std.specs.Ordering.{nat_cmp}
use Rattle.std.specs.List.{IsDistinct, list_any}
use Rattle.std.specs.List.Sorted.{IsStrictlySortedBy}
use Rattle.std.specs.Map.{lookup, keys_of}
use Rattle.registry.specs.Endpoint.{EndpointParts, has_alias}
use Rattle.registry.specs.Registration.{has_id}
use Rattle.registry.specs.Served.{Place, Places, serves_at, found_serving}
use Rattle.registry.specs.NumberedEndpoints.{Numbered, at_number, by_id, is_number}

-- the numbers by alias
abbrev pub AliasNumbers : Type 0
AliasNumbers = List (List ℕ × ℕ)

-- the number to which an alias leads
abbrev pub number_of_alias : AliasNumbers → List ℕ → Option ℕ
number_of_alias alias_numbers alias = lookup (bytes_eq alias) alias_numbers

-- whether an endpoint was found, and it has the alias
abbrev pub found_with : List ℕ → Option EndpointParts → Bool
found_with alias None = false
found_with alias (Some e) = has_alias e alias

-- the aliases of the endpoint that was found, or none
abbrev pub aliases_of : Option EndpointParts → List (List ℕ)
aliases_of None = []
aliases_of (Some e) = e.aliases

-- whether a list of aliases has this one
abbrev pub lists : List (List ℕ) → List ℕ → Bool
lists aliases alias = list_any (bytes_eq alias) aliases

-- an alias leads to a number exactly if the endpoint of that number has the alias
abbrev pub AreNumbersOfAliases : AliasNumbers → Numbered → Type 0
AreNumbersOfAliases alias_numbers entries =
    (alias : List ℕ) (number : ℕ)
    → is_number number (number_of_alias alias_numbers alias) ≡ found_with alias (at_number
    entries number)

-- in new these aliases lead nowhere, and each other alias leads where it does in old
abbrev pub Forgets : AliasNumbers → AliasNumbers → List (List ℕ) → Type 0
Forgets old new aliases =
    (alias : List ℕ)
    → number_of_alias new alias
    ≡ (if lists aliases alias then None else number_of_alias old alias)

-- in new these aliases lead to this number, and each other alias leads where it does in old
abbrev pub LeadTo : AliasNumbers → AliasNumbers → List (List ℕ) → ℕ → Type 0
LeadTo old new aliases number =
    (alias : List ℕ)
    → number_of_alias new alias
    ≡ (if lists aliases alias then Some number else number_of_alias old alias)

-- the endpoints' numbers ascend, no two have the same ID, and an alias leads to the number of the
-- endpoint that has it, or else nowhere
pub record IsIndexed (entries : Numbered) (alias_numbers : AliasNumbers) : Type 0 where
  pub sorted : IsStrictlySortedBy nat_cmp (keys_of entries)
  pub distinct : IsDistinct bytes_eq (keys_of (by_id entries))
  pub owned : AreNumbersOfAliases alias_numbers entries

-- ---- what the map finds
-- the endpoint with the alias, in whatever zone
abbrev pub owner_of : List EndpointParts → List ℕ → Option EndpointParts
owner_of endpoints alias = find (λ e. has_alias e alias) endpoints

-- whether the alias is that of an endpoint with another ID
abbrev pub is_of_another : List EndpointParts → List ℕ → List ℕ → Bool
is_of_another endpoints id alias = list_any (λ e. not (has_id id e) && has_alias e alias) endpoints

-- ---- the places that gateways serve
-- a place is among the places exactly if the endpoint of its number serves there
abbrev pub AreServed : Places → Numbered → Type 0
AreServed places entries =
    (place : Place)
    → serves_at places place ≡ found_serving (at_number entries place.2) place.0 place.1

-- from this number on, no gateway serves the zone with the prefix
abbrev pub NoneServes : Numbered → List ℕ → List ℕ → ℕ → Type 0
NoneServes entries zone prefix from =
    (number : ℕ) → from ≤ number → found_serving (at_number entries number) zone prefix ≡ false

-- the least number from here on of a gateway that serves the zone with the prefix
pub record IsNextServing (entries : Numbered) (zone prefix : List ℕ)
    (from number : ℕ) : Type 0 where
  pub there : found_serving (at_number entries number) zone prefix ≡ true
  pub from_here : from ≤ number
  pub least : (other : ℕ) → from ≤ other → other < number
      → found_serving (at_number entries other) zone prefix ≡ false
