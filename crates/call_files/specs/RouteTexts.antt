-- Routes as they stand in a call file: exactly as they are printed.
use Rattle.std.specs.Prelude.{ℕ, List, [], ◌∷◌, codes, bytes_eq, Option, Some, None, option_map, option_and_then, if◌then◌else◌}
use Rattle.std.specs.Bool.{then_some}
use Rattle.gk_terms.specs.Address.{AddressParts, address_of}
use Rattle.gk_terms.specs.Name.{name_of}
use Rattle.gk_terms.specs.Text.{words_of}
use Rattle.rulings.specs.declared.routes.Destination.{Destination}
use Rattle.rulings.specs.declared.routes.Destination.TheVariants.{Gateway, Terminal, Zone}
use Rattle.rulings.specs.declared.routes.Route.{Route}
use Rattle.rulings.specs.declared.routes.Route.TheVariants.{To, Refused}
use Rattle.rulings.specs.declared.routes.RouteRefusal.TheVariants.{UnknownPrefix, NoGateway, NoDefault}
use Rattle.rulings.specs.Routes.{destination_text}

-- the kind of a destination, by its word
abbrev pub destination_at : List ℕ → List ℕ → AddressParts → Option Destination
destination_at kind name address =
    if bytes_eq kind (codes "GW") then Some (Gateway name address)
    else (if bytes_eq kind (codes "TERM") then Some (Terminal name address)
    else (if bytes_eq kind (codes "ZONE") then Some (Zone name address) else None))

-- the destination that words say, whatever comes after them; an address without a port gets one
abbrev pub destination_of : List (List ℕ) → Option Destination
destination_of [] = None
destination_of (kind ∷ []) = None
destination_of (kind ∷ name ∷ []) = None
destination_of (kind ∷ name ∷ address ∷ more) =
    option_and_then (λ n. option_and_then (λ a. destination_at kind n a) (address_of 1720 address))
    (name_of name)

-- a destination, if it is printed as this text
abbrev pub printed_as : List ℕ → Option Destination → Option Destination
printed_as text None = None
printed_as text (Some destination) =
    then_some (bytes_eq (destination_text destination) text) destination

-- the route that is printed as this text
abbrev pub route_of : List ℕ → Option Route
route_of text =
    if bytes_eq text (codes "unknown-prefix") then Some (Refused UnknownPrefix)
    else (if bytes_eq text (codes "no-gateway") then Some (Refused NoGateway)
    else (if bytes_eq text (codes "no-default") then Some (Refused NoDefault)
    else option_map To (printed_as text (destination_of (words_of text)))))
