-- Destinations and routes as texts. Each is its parts, with a space between each two.
use Rattle.std.specs.Prelude.{ℕ, List, [], ◌∷◌, codes}
use Rattle.gk_terms.specs.Text.{spaced}
use Rattle.gk_terms.specs.Address.{address_text}
use Rattle.rulings.specs.declared.routes.Destination.{Destination}
use Rattle.rulings.specs.declared.routes.Destination.TheVariants.{Gateway, Terminal, Zone}
use Rattle.rulings.specs.declared.routes.RouteRefusal.{RouteRefusal}
use Rattle.rulings.specs.declared.routes.RouteRefusal.TheVariants.{UnknownPrefix, NoGateway, NoDefault}
use Rattle.rulings.specs.declared.routes.Route.{Route}
use Rattle.rulings.specs.declared.routes.Route.TheVariants.{To, Refused}

-- a destination in words: GW, TERM or ZONE, the ID or the zone's name, and the address
abbrev pub destination_words : Destination → List (List ℕ)
destination_words (Gateway id address) = codes "GW" ∷ id ∷ address_text address ∷ []
destination_words (Terminal id address) = codes "TERM" ∷ id ∷ address_text address ∷ []
destination_words (Zone name address) = codes "ZONE" ∷ name ∷ address_text address ∷ []

abbrev pub destination_text : Destination → List ℕ
destination_text destination = spaced (destination_words destination)

abbrev pub route_refusal_word : RouteRefusal → List ℕ
route_refusal_word UnknownPrefix = codes "unknown-prefix"
route_refusal_word NoGateway = codes "no-gateway"
route_refusal_word NoDefault = codes "no-default"

-- a route as its destination, or as the word of its refusal
abbrev pub route_text : Route → List ℕ
route_text (To destination) = destination_text destination
route_text (Refused refusal) = route_refusal_word refusal
