-- The texts of an endpoint as one text of bytes, and what such a text says.
use Rattle.std.specs.Prelude.{◌≡◌, ℕ, zero, suc, true, List, [], ◌∷◌, ◌++◌, length, take, drop, flat_map}
use Rattle.std.specs.List.{list_all}
use Rattle.gk_terms.specs.Address.{AddressParts}
use Rattle.gk_terms.specs.Dialled.{is_dialled}
use Rattle.gk_terms.specs.Name.{IsName}
use Rattle.gk_terms.specs.TechPrefix.{is_tech_prefix}
use Rattle.registry.specs.declared.endpoints.EndpointKind.{EndpointKind}
use Rattle.registry.specs.Endpoint.{EndpointParts, KeepsCounts}

-- ---- how texts are put
-- a text after its length
abbrev pub sized : List ℕ → List ℕ
sized text = length text ∷ text

-- texts after their count
abbrev pub counted : List (List ℕ) → List ℕ
counted texts = length texts ∷ flat_map sized texts

-- the ID, the zone, the aliases and the technology prefixes
abbrev pub texts_of : EndpointParts → List ℕ
texts_of e = sized e.id ++ sized e.zone ++ counted e.aliases ++ counted e.technologies

-- ---- how they are read
-- the text at the beginning, and what comes after it
abbrev pub first_text : List ℕ → List ℕ
first_text [] = []
first_text (size ∷ rest) = take size rest

abbrev pub after_text : List ℕ → List ℕ
after_text [] = []
after_text (size ∷ rest) = drop size rest

-- so many texts at the beginning, and what comes after them
unfoldable pub first_texts : ℕ → List ℕ → List (List ℕ)
first_texts zero bytes = []
first_texts (suc count) bytes = first_text bytes ∷ first_texts count (after_text bytes)

unfoldable pub after_texts : ℕ → List ℕ → List ℕ
after_texts zero bytes = bytes
after_texts (suc count) bytes = after_texts count (after_text bytes)

-- as many texts as the first byte says, and what comes after them
abbrev pub counted_texts : List ℕ → List (List ℕ)
counted_texts [] = []
counted_texts (count ∷ rest) = first_texts count rest

abbrev pub after_counted : List ℕ → List ℕ
after_counted [] = []
after_counted (count ∷ rest) = after_texts count rest

-- the lists, after the ID and the zone
abbrev pub lists_in : List ℕ → List ℕ
lists_in texts = after_text (after_text texts)

-- an endpoint of this kind and address whose other parts these texts say
abbrev pub endpoint_read : EndpointKind → AddressParts → List ℕ → EndpointParts
endpoint_read kind address texts = record {
  kind = kind;
  id = first_text texts;
  zone = first_text (after_text texts);
  address = address;
  aliases = counted_texts (lists_in texts);
  technologies = counted_texts (after_counted (lists_in texts));
}

-- each of an endpoint's texts is of its kind
pub record HasRightTexts (e : EndpointParts) : Type 0 where
  pub id : IsName e.id
  pub zone : IsName e.zone
  pub aliases : list_all is_dialled e.aliases ≡ true
  pub technologies : list_all is_tech_prefix e.technologies ≡ true

-- and there are no more of them than there may be, and in a list none twice
pub record IsWhole (e : EndpointParts) : Type 0 where
  pub texts : HasRightTexts e
  pub counts : KeepsCounts e
