-- Endpoints under their numbers, in order of registration, and the number of each ID.
use Rattle.std.specs.Prelude.{◌≡◌, ◌<◌, ◌≤◌, ◌⊎◌, ℕ, ◌+◌, ◌^◌, ◌==◌, Bool, true, false, cond, List, map, Option, Some, None, bytes_eq}
use Rattle.std.specs.Ordering.{nat_cmp}
use Rattle.std.specs.BTreeMap.{is_at}
use Rattle.std.specs.List.{IsDistinct}
use Rattle.std.specs.List.Sorted.{IsStrictlySortedBy}
use Rattle.std.specs.Map.{lookup, keys_of, values_of, remove_entry}
use Rattle.indexmap.specs.IndexMap.{insert_entry}
use Rattle.registry.specs.Endpoint.{EndpointParts}
use Rattle.registry.specs.Registration.{has_id}

-- the endpoints by ID, in order of registration
abbrev pub Entries : Type 0
Entries = List (List ℕ × EndpointParts)

-- the endpoints by number
abbrev pub Numbered : Type 0
Numbered = List (ℕ × EndpointParts)

-- the numbers by ID
abbrev pub Numbers : Type 0
Numbers = List (List ℕ × ℕ)

-- the endpoints, and a number that is greater than each number in use
pub record NumberedParts : Type 0 where
  pub entries : Numbered
  pub next : ℕ

-- the endpoints, in order
abbrev pub endpoints_of : NumberedParts → List EndpointParts
endpoints_of r = values_of r.entries

-- the endpoint of a number
abbrev pub at_number : Numbered → ℕ → Option EndpointParts
at_number entries number = lookup (is_at (nat_cmp number)) entries

-- the endpoint of an ID
abbrev pub kept_endpoint_of : Entries → List ℕ → Option EndpointParts
kept_endpoint_of entries id = lookup (bytes_eq id) entries

-- the number of an ID
abbrev pub number_of_id : Numbers → List ℕ → Option ℕ
number_of_id numbers id = lookup (bytes_eq id) numbers

-- the same endpoints by ID
abbrev pub by_id : Numbered → Entries
by_id entries = map (λ e. (e.1.id, e.1)) entries

-- whether a number was found, and it is this one
abbrev pub is_number : ℕ → Option ℕ → Bool
is_number number None = false
is_number number (Some found) = found == number

-- whether an endpoint was found, and it has the ID
abbrev pub found_with_id : List ℕ → Option EndpointParts → Bool
found_with_id id None = false
found_with_id id (Some e) = has_id id e

-- an ID leads to a number exactly if the endpoint of that number has the ID
abbrev pub AreNumbersOf : Numbers → Numbered → Type 0
AreNumbersOf numbers entries =
    (id : List ℕ) (number : ℕ)
    → is_number number (number_of_id numbers id) ≡ found_with_id id (at_number entries number)

-- the numbers ascend, each is less than the next one, and an ID leads to its endpoint
pub record IsNumbered (entries : Numbered) (numbers : Numbers) (next : ℕ) : Type 0 where
  pub sorted : IsStrictlySortedBy nat_cmp (keys_of entries)
  pub below : (number : ℕ) (e : EndpointParts) → at_number entries number ≡ Some e → number < next
  pub numbered : AreNumbersOf numbers entries

-- the number of an ID, or the next one if no endpoint has the ID
pub record IsNumberFor (r : NumberedParts) (id : List ℕ) (number : ℕ) : Type 0 where
  pub only : (other : ℕ) → found_with_id id (at_number r.entries other) ≡ true → other ≡ number
  pub which : (found_with_id id (at_number r.entries number) ≡ true) ⊎ (number ≡ r.next)

-- the same entries by ID, with the endpoint at its ID
pub record IsPut (old new : Entries) (e : EndpointParts) : Type 0 where
  pub entries : new ≡ insert_entry bytes_eq old e.id e
  pub unique : IsDistinct bytes_eq (keys_of new)
  pub updates : (id : List ℕ)
      → kept_endpoint_of new id ≡ cond (bytes_eq e.id id) (Some e) (kept_endpoint_of old id)

-- the same entries by ID, without that ID
pub record IsTakenOut (old new : Entries) (id : List ℕ) : Type 0 where
  pub entries : new ≡ remove_entry (bytes_eq id) old
  pub unique : IsDistinct bytes_eq (keys_of new)
  pub updates : (other : List ℕ)
      → kept_endpoint_of new other ≡ cond (bytes_eq id other) None (kept_endpoint_of old other)

-- new has e at that number, and at each other number what old has
abbrev pub IsSetAt : Numbered → Numbered → ℕ → Option EndpointParts → Type 0
IsSetAt old new number e =
    (other : ℕ) → at_number new other ≡ cond (is_at (nat_cmp number) other) e (at_number old other)

-- the number for an ID had what was before, and in new it has what is after; each other number has
-- what it had, and the numbers still ascend
pub record IsChangedAt (old : NumberedParts) (new : Numbered) (id : List ℕ) (number : ℕ)
    (before after : Option EndpointParts) : Type 0 where
  pub own : IsNumberFor old id number
  pub had : before ≡ at_number old.entries number
  pub set : IsSetAt old.entries new number after
  pub sorted : IsStrictlySortedBy nat_cmp (keys_of new)

-- no endpoint has a number from this one on
abbrev pub NoneFrom : Numbered → ℕ → Type 0
NoneFrom entries from = (number : ℕ) → from ≤ number → at_number entries number ≡ None

-- the endpoint of the least number from here on, which is the number of its ID
pub record IsNextFrom (r : NumberedParts) (from number : ℕ) (e : EndpointParts) : Type 0 where
  pub there : at_number r.entries number ≡ Some e
  pub from_here : from ≤ number
  pub least : (other : ℕ) → from ≤ other → other < number → at_number r.entries other ≡ None
  pub own : IsNumberFor r e.id number
  pub below : number < r.next
  pub room : number + 1 < 2 ^ 32
