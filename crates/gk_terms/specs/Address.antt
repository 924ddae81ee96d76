-- IPv4 addresses with a port, as texts.
use Rattle.std.specs.Prelude.{ℕ, ◌==◌, List, [], ◌∷◌, ◌++◌, length, if◌then◌else◌, Option, Some, None, decimal, flat_map, option_and_then, option_map}
use Rattle.std.specs.List.{slice_split}
use Rattle.gk_terms.specs.Number.{number_of}

-- an IPv4 address and a port
pub record AddressParts : Type 0 where
  pub ip : List ℕ
  pub port : ℕ

-- one part of an IPv4 address
abbrev pub octet_of : List ℕ → Option ℕ
octet_of text = number_of 0 255 text

abbrev pub port_of : List ℕ → Option ℕ
port_of text = number_of 1 65535 text

-- an octet in front of others
abbrev pub with_octet : Option ℕ → Option (List ℕ) → Option (List ℕ)
with_octet first others = option_and_then (λ a. option_map (λ bs. a ∷ bs) others) first

-- each part as an octet
abbrev pub octets_of : List (List ℕ) → Option (List ℕ)
octets_of [] = Some []
octets_of (part ∷ parts) = with_octet (octet_of part) (octets_of parts)

-- four parts, and no more
abbrev pub octets_of_four : List (List ℕ) → Option (List ℕ)
octets_of_four parts = if length parts == 4 then octets_of parts else None

-- the IPv4 address that a text spells: four numbers from 0 to 255 with single dots between
abbrev pub ip_of : List ℕ → Option (List ℕ)
ip_of text = octets_of_four (slice_split (λ b. b == 46) text)

abbrev pub address_from : Option (List ℕ) → Option ℕ → Option AddressParts
address_from ip port = option_and_then (λ a. option_map (λ p. record { ip = a; port = p }) port) ip

-- the port that the only part spells
abbrev pub port_of_last : List (List ℕ) → Option ℕ
port_of_last [] = None
port_of_last (part ∷ []) = port_of part
port_of_last (part ∷ next ∷ parts) = None

-- `IP` with the default port, or `IP:PORT`
abbrev pub address_of_parts : ℕ → List (List ℕ) → Option AddressParts
address_of_parts default_port [] = None
address_of_parts default_port (ip ∷ []) = address_from (ip_of ip) (Some default_port)
address_of_parts default_port (ip ∷ part ∷ parts) =
    address_from (ip_of ip) (port_of_last (part ∷ parts))

-- the address that a text spells
abbrev pub address_of : ℕ → List ℕ → Option AddressParts
address_of default_port text = address_of_parts default_port (slice_split (λ b. b == 58) text)

-- octets with dots between
abbrev pub ip_text : List ℕ → List ℕ
ip_text [] = []
ip_text (a ∷ others) = decimal a ++ flat_map (λ b. 46 ∷ decimal b) others

-- always `IP:PORT`
abbrev pub address_text : AddressParts → List ℕ
address_text a = ip_text a.ip ++ (58 ∷ decimal a.port)
