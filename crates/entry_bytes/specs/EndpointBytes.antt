-- An endpoint as bytes, which are the last ones of an entry.
use Rattle.std.specs.Prelude.{ℕ, List, ◌∷◌, ◌++◌, Option, Some}
use Rattle.registry.specs.Endpoint.{EndpointParts}
use Rattle.entry_bytes.specs.EndpointTexts.{endpoint_read, texts_of}
use Rattle.field_bytes.specs.Fields.{◌>>=◌, address_bytes, address_in}
use Rattle.entry_bytes.specs.Codes.{coded_in, endpoint_kind_code, endpoint_kind_of}

-- its kind, its address and its texts
abbrev pub endpoint_bytes : EndpointParts → List ℕ
endpoint_bytes e = (endpoint_kind_code e.kind ∷ address_bytes e.address) ++ texts_of e

-- its texts are all that is left after its kind and its address
abbrev pub endpoint_in : List ℕ → Option EndpointParts
endpoint_in bytes = do
  kind ← coded_in endpoint_kind_of bytes
  address ← address_in kind.1
  Some (endpoint_read kind.0 address.0 address.1)
