-- The gateway that is chosen for a zone and a technology prefix: of the greatest priority, and of
-- equal priority the one that registered first. This project's profile.
use Rattle.std.specs.Prelude.{◌≡◌, ◌<◌, ◌≤◌, ℕ, Bool, true, false, ◌&&◌, nat_lt, IsTrue, List, filter, slice_get, Option, Some, bytes_eq}
use Rattle.gk_terms.specs.Choice.{first_unbeaten}
use Rattle.gk_commands.specs.declared.commands.Command.{Command}
use Rattle.compiler.specs.Rows.{ZoneRow}
use Rattle.compiler.specs.Priority.{priority_of}
use Rattle.registry.specs.declared.endpoints.EndpointKind.{EndpointKind}
use Rattle.registry.specs.declared.endpoints.EndpointKind.TheVariants.{Gateway, Terminal}
use Rattle.registry.specs.Endpoint.{EndpointParts, has_technology}

abbrev pub is_gateway : EndpointKind → Bool
is_gateway Gateway = true
is_gateway Terminal = false

-- registered as a gateway in the zone with the prefix
abbrev pub serves : List ℕ → List ℕ → EndpointParts → Bool
serves zone prefix e = is_gateway e.kind && bytes_eq e.zone zone && has_technology e prefix

-- ---- by any priorities
module _ (priority : List ℕ → ℕ) where
  -- it serves, and its priority is above 0
  abbrev pub is_candidate : List ℕ → List ℕ → EndpointParts → Bool
  is_candidate zone prefix e = serves zone prefix e && nat_lt 0 (priority e.id)

  -- a candidate such that no other has a greater priority, and none before it has the same
  pub record IsChosenBy
      (endpoints : List EndpointParts) (zone prefix : List ℕ) (chosen : EndpointParts)
      : Type 0 where
    pub place : ℕ
    pub listed : slice_get endpoints place ≡ Some chosen
    pub candidate : IsTrue (is_candidate zone prefix chosen)
    pub greatest : (k : ℕ) (e : EndpointParts) → slice_get endpoints k ≡ Some e
        → IsTrue (is_candidate zone prefix e) → priority e.id ≤ priority chosen.id
    pub first : (k : ℕ) (e : EndpointParts) → k < place → slice_get endpoints k ≡ Some e
        → IsTrue (is_candidate zone prefix e) → priority e.id < priority chosen.id

  -- whether an endpoint has a greater priority than another
  abbrev pub has_greater : EndpointParts → EndpointParts → Bool
  has_greater e f = nat_lt (priority f.id) (priority e.id)

  -- the gateway that is chosen, or none if there is no candidate
  abbrev pub gateway_by : List EndpointParts → List ℕ → List ℕ → Option EndpointParts
  gateway_by endpoints zone prefix =
      first_unbeaten has_greater (filter (is_candidate zone prefix) endpoints)

-- ---- by the priorities that the commands give for a row
abbrev pub IsChosen : List Command → List EndpointParts → List ℕ → List ℕ → Option ZoneRow
    → EndpointParts → Type 0
IsChosen commands endpoints zone prefix row chosen =
    IsChosenBy (priority_of commands row) endpoints zone prefix chosen

abbrev pub gateway_of : List Command → List EndpointParts → List ℕ → List ℕ → Option ZoneRow
    → Option EndpointParts
gateway_of commands endpoints zone prefix row =
    gateway_by (priority_of commands row) endpoints zone prefix
