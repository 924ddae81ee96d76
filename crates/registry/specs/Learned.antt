-- Technology prefixes that are learned from registered gateways. This project's profile.
use Rattle.std.specs.Prelude.{ℕ, Bool, nat_lt, List, [], length, filter, flat_map, if◌then◌else◌}
use Rattle.gk_commands.specs.declared.commands.Command.{Command}
use Rattle.registry.specs.Endpoint.{EndpointParts}
use Rattle.registry.specs.Gateway.{is_gateway}
use Rattle.registry.specs.Registration.{kept_zones}

-- whether a text has a character; each technology prefix has
abbrev pub has_some : List ℕ → Bool
has_some text = nat_lt 0 (length text)

-- the technology prefixes that an endpoint gives: those of a gateway
abbrev pub prefixes_given : EndpointParts → List (List ℕ)
prefixes_given e = if is_gateway e.kind then filter has_some e.technologies else []

-- the prefixes of the gateways whose zone is a local one
abbrev pub learned_prefixes : List Command → List EndpointParts → List (List ℕ)
learned_prefixes commands endpoints = flat_map prefixes_given (kept_zones commands endpoints)
