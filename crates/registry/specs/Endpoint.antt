-- Endpoints, as contracts see them.
use Rattle.std.specs.Prelude.{◌≤◌, ℕ, Bool, List, [], ◌∷◌, ◌++◌, length, nat_le, Result, Ok, Err, bytes_eq, if◌then◌else◌}
use Rattle.std.specs.List.{list_any, IsDistinct}
use Rattle.gk_terms.specs.Address.{AddressParts}
use Rattle.gk_terms.specs.declared.limits.TheConstants.{MOST_ALIASES, MOST_TECHNOLOGIES}
use Rattle.registry.specs.declared.endpoints.EndpointKind.{EndpointKind}
use Rattle.registry.specs.declared.faults.RegistryFault.{RegistryFault}
use Rattle.registry.specs.declared.faults.RegistryFault.TheVariants.{TooMany}

pub record EndpointParts : Type 0 where
  pub kind : EndpointKind
  pub id : List ℕ
  pub zone : List ℕ
  pub address : AddressParts
  pub aliases : List (List ℕ)
  pub technologies : List (List ℕ)

-- whether an alias is one of the endpoint's
abbrev pub has_alias : EndpointParts → List ℕ → Bool
has_alias e alias = list_any (bytes_eq alias) e.aliases

-- whether a technology prefix is one of the endpoint's
abbrev pub has_technology : EndpointParts → List ℕ → Bool
has_technology e prefix = list_any (bytes_eq prefix) e.technologies

-- two endpoints share an alias
abbrev pub share_alias : EndpointParts → EndpointParts → Bool
share_alias f e = list_any (has_alias f) e.aliases

-- at most 16 aliases and 8 technology prefixes, none twice
pub record KeepsCounts (e : EndpointParts) : Type 0 where
  pub aliases : length e.aliases ≤ MOST_ALIASES
  pub technologies : length e.technologies ≤ MOST_TECHNOLOGIES
  pub different_aliases : IsDistinct bytes_eq e.aliases
  pub different_technologies : IsDistinct bytes_eq e.technologies

-- ---- what the calls of an endpoint do
-- with an alias after the others, unless it is one of them; a seventeenth is too many
abbrev pub with_alias : EndpointParts → List ℕ → Result EndpointParts RegistryFault
with_alias e alias =
    if has_alias e alias then Ok e
    else (if nat_le MOST_ALIASES (length e.aliases) then Err TooMany
    else Ok (record e { aliases = e.aliases ++ alias ∷ [] }))

-- with a technology prefix after the others, unless it is one of them; a ninth is too many
abbrev pub with_technology : EndpointParts → List ℕ → Result EndpointParts RegistryFault
with_technology e prefix =
    if has_technology e prefix then Ok e
    else (if nat_le MOST_TECHNOLOGIES (length e.technologies) then Err TooMany
    else Ok (record e { technologies = e.technologies ++ prefix ∷ [] }))
