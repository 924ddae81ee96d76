-- Routes whose parts are words: a name without a blank, four octets, and a port.
use Rattle.std.specs.Prelude.{◌≡◌, ◌<◌, ℕ, List, length, ⊤}
use Rattle.std.specs.List.{All}
use Rattle.gk_terms.specs.Address.{AddressParts}
use Rattle.gk_terms.specs.Name.{IsName}
use Rattle.rulings.specs.declared.routes.Destination.TheVariants.{Gateway, Terminal, Zone}
use Rattle.rulings.specs.declared.routes.Route.{Route}
use Rattle.rulings.specs.declared.routes.Route.TheVariants.{To, Refused}

abbrev pub IsPlace : List ℕ → AddressParts → Type 0
IsPlace name address =
    IsName name × (length address.ip ≡ 4) × All (λ octet. octet < 256) address.ip
    × (address.port < 65536)

abbrev pub IsSpelled : Route → Type 0
IsSpelled (To (Gateway id address)) = IsPlace id address
IsSpelled (To (Terminal id address)) = IsPlace id address
IsSpelled (To (Zone name address)) = IsPlace name address
IsSpelled (Refused refusal) = ⊤
