-- The gateway that is computed is the one that the relation names.
use Rattle.std.specs.Prelude.{◌≡◌, ℕ, false, List, slice_get, Option, Some, None}
use Rattle.gk_commands.specs.declared.commands.Command.{Command}
use Rattle.compiler.specs.Rows.{ZoneRow}
use Rattle.compiler.specs.Priority.{priority_of}
use Rattle.registry.specs.Endpoint.{EndpointParts}
use Rattle.registry.specs.Gateway.{IsChosen, gateway_of, is_candidate}

-- no endpoint is a candidate
abbrev pub HasNoCandidate : List Command → List EndpointParts → List ℕ → List ℕ → Option ZoneRow
    → Type 0
HasNoCandidate commands endpoints zone prefix row =
    (place : ℕ) (e : EndpointParts) → slice_get endpoints place ≡ Some e
    → is_candidate (priority_of commands row) zone prefix e ≡ false

-- what is computed is chosen
abbrev pub ComputedIsChosen : Type 0
ComputedIsChosen =
    (commands : List Command) (endpoints : List EndpointParts) (zone prefix : List ℕ)
    (row : Option ZoneRow) (e : EndpointParts)
    → gateway_of commands endpoints zone prefix row ≡ Some e
    → IsChosen commands endpoints zone prefix row e

-- what is chosen is computed
abbrev pub ChosenIsComputed : Type 0
ChosenIsComputed =
    (commands : List Command) (endpoints : List EndpointParts) (zone prefix : List ℕ)
    (row : Option ZoneRow) (e : EndpointParts)
    → IsChosen commands endpoints zone prefix row e
    → gateway_of commands endpoints zone prefix row ≡ Some e

-- none is computed exactly if no endpoint is a candidate
abbrev pub NoneWithoutCandidate : Type 0
NoneWithoutCandidate =
    (commands : List Command) (endpoints : List EndpointParts) (zone prefix : List ℕ)
    (row : Option ZoneRow)
    → (gateway_of commands endpoints zone prefix row ≡ None
    → HasNoCandidate commands endpoints zone prefix row)
    × (HasNoCandidate commands endpoints zone prefix row
    → gateway_of commands endpoints zone prefix row ≡ None)
