-- What was written of rows reads as the same rows.
use Rattle.std.specs.Prelude.{◌≡◌, ◌^◌, ◌<◌, ◌≤◌, true, List, [], length, ⊤}
use Rattle.std.specs.List.{All}
use Rattle.gk_terms.specs.Address.{AddressParts}
use Rattle.gk_terms.specs.Dialled.{IsDialled}
use Rattle.gk_terms.specs.Name.{IsName}
use Rattle.rulings.specs.declared.routes.Destination.{Destination}
use Rattle.rulings.specs.declared.routes.Destination.TheVariants.{Gateway, Terminal, Zone}
use Rattle.rulings.specs.declared.routes.Route.{Route}
use Rattle.rulings.specs.declared.routes.Route.TheVariants.{To, Refused}
use Rattle.call_rows.specs.Pushing.{MayFollow}
use Rattle.call_rows.specs.Rows.{RowParts, is_row}
use Rattle.call_rows.specs.declared.rows.CallEvent.{CallEvent}
use Rattle.call_rows.specs.declared.rows.CallEvent.TheVariants.{Admitted, Answered, Changed, Released}
use Rattle.call_files.specs.Calls.{SaysRows, calls_text}

-- ---- what the types of a row keep
-- four octets, and a port
abbrev pub IsAddress : AddressParts → Type 0
IsAddress a =
    (length a.ip ≡ 4) × All (λ octet. octet ≤ 255) a.ip × (1 ≤ a.port) × (a.port ≤ 65535)

abbrev pub IsDestination : Destination → Type 0
IsDestination (Gateway id address) = IsName id × IsAddress address
IsDestination (Terminal id address) = IsName id × IsAddress address
IsDestination (Zone name address) = IsName name × IsAddress address

abbrev pub IsRoute : Route → Type 0
IsRoute (To destination) = IsDestination destination
IsRoute (Refused refusal) = ⊤

-- numbers of 32 bits, and texts that are names, digits and routes
abbrev pub IsEvent : CallEvent → Type 0
IsEvent (Admitted a) =
    (a.call < 2 ^ 32) × IsName a.zone × IsDialled a.digits × (a.units < 2 ^ 32) × IsRoute a.route
IsEvent (Answered a) = (a.call < 2 ^ 32) × IsName a.zone × (a.units < 2 ^ 32) × IsRoute a.route
IsEvent (Changed call units) = (call < 2 ^ 32) × (units < 2 ^ 32)
IsEvent (Released call) = call < 2 ^ 32

-- a row of the type
abbrev pub IsRow : RowParts → Type 0
IsRow row = (row.number < 2 ^ 32) × IsEvent row.event × (is_row row ≡ true)

-- what is written of rows that a snapshot may hold reads as these rows: each is a row, and none was
-- refused after those before it
abbrev pub CallsReadBack : Type 0
CallsReadBack =
    (rows : List RowParts) → All IsRow rows → MayFollow [] rows → SaysRows (calls_text rows) rows
