-- The gateway that is chosen, by the priorities that are named: looked for among those that are
-- named, and among the others, by number.
use Rattle.std.specs.Prelude.{◌≡◌, ◌<◌, ◌≤◌, ◌⊎◌, ℕ, ◌==◌, Bool, true, false, not, ◌&&◌, ◌||◌, nat_lt, nat_le, List, Option, Some, None, bytes_eq, if◌then◌else◌}
use Rattle.std.specs.List.{list_any}
use Rattle.compiler.specs.Priority.{named_priority}
use Rattle.registry.specs.Endpoint.{EndpointParts}
use Rattle.registry.specs.Gateway.{is_candidate}
use Rattle.registry.specs.NumberedEndpoints.{Numbered, at_number}

-- the gateways that are named, each with its priority
abbrev pub Named : Type 0
Named = List (List ℕ × ℕ)

-- a candidate that is none of these
abbrev pub is_other_than : Named → List ℕ → List ℕ → List (List ℕ) → EndpointParts → Bool
is_other_than named zone prefix ids e =
    is_candidate (named_priority named) zone prefix e && not (list_any (bytes_eq e.id) ids)

-- the endpoint of that number is the best of those that pass the test: none has a greater priority,
-- and of the same priority none has a lesser number
pub record IsBestAt (entries : Numbered) (named : Named) (test : EndpointParts → Bool)
    (priority number : ℕ) : Type 0 where
  pub endpoint : EndpointParts
  pub there : at_number entries number ≡ Some endpoint
  pub passes : test endpoint ≡ true
  pub ranked : priority ≡ named_priority named endpoint.id
  pub greatest : (other : ℕ) (e : EndpointParts) → at_number entries other ≡ Some e → test e ≡ true
      → (named_priority named e.id < priority)
      ⊎ ((named_priority named e.id ≡ priority) × (number ≤ other))

-- the same, or no endpoint passes the test
abbrev pub IsBestGateway : Numbered → Named → (EndpointParts → Bool) → Option (ℕ × ℕ) → Type 0
IsBestGateway entries named test None =
    (number : ℕ) (e : EndpointParts) → at_number entries number ≡ Some e → test e ≡ false
IsBestGateway entries named test (Some best) = IsBestAt entries named test best.0 best.1

-- whether a priority and a number come before another: a greater priority, or the same and no
-- greater number
abbrev pub comes_first : ℕ × ℕ → ℕ × ℕ → Bool
comes_first a b = nat_lt b.0 a.0 || ((a.0 == b.0) && nat_le a.1 b.1)

-- the first of two
abbrev pub first_of : Option (ℕ × ℕ) → ℕ × ℕ → ℕ × ℕ
first_of None b = b
first_of (Some a) b = if comes_first a b then a else b

-- there is one already, and it comes before the other
abbrev pub is_first : Option (ℕ × ℕ) → ℕ × ℕ → Bool
is_first None b = false
is_first (Some a) b = comes_first a b

-- there is one already, of a greater priority
abbrev pub is_greater : Option (ℕ × ℕ) → ℕ → Bool
is_greater None priority = false
is_greater (Some a) priority = nat_lt priority a.0
