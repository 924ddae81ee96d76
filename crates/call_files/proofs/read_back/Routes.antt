-- The text of a route reads as the route.
use Rattle.std.proofs.Common.{◌≡◌, ℕ, ◌<◌, true, List, [], ◌∷◌, ◌++◌, length, Some, refl, ap, ◌∙◌, arith}
use Rattle.std.specs.Prelude.{◌&&◌, codes, nat_le, option_and_then, option_map}
use Rattle.std.specs.Bool.{then_some}
use Rattle.std.specs.List.{list_all}
use Rattle.std.specs.Str.{is_utf8}
use Rattle.std.proofs.lemmas.Bool.{and_parts, and_from}
use Rattle.std.proofs.lemmas.Slice.Eq.{bytes_eq-Decides}
use Rattle.gk_terms.specs.Address.{AddressParts, address_of, address_text}
use Rattle.gk_terms.specs.Name.{IsName, name_of}
use Rattle.gk_terms.specs.Spelling.{is_visible}
use Rattle.gk_terms.specs.Text.{spaced, words_of}
use Rattle.gk_commands.specs.Accepted.{is_word}
use Rattle.command_reader.proofs.read_back.Words.{word_from, words_back}
use Rattle.rulings.specs.Routes.{destination_text, route_text}
use Rattle.rulings.specs.declared.routes.Destination.{Destination}
use Rattle.rulings.specs.declared.routes.Destination.TheVariants.{Gateway, Terminal, Zone}
use Rattle.rulings.specs.declared.routes.Route.{Route}
use Rattle.rulings.specs.declared.routes.Route.TheVariants.{To, Refused}
use Rattle.rulings.specs.declared.routes.RouteRefusal.TheVariants.{UnknownPrefix, NoGateway, NoDefault}
use Rattle.call_files.specs.ReadBack.{IsAddress, IsDestination, IsRoute}
use Rattle.call_files.specs.RouteTexts.{destination_at, destination_of, printed_as, route_of}
use Rattle.call_files.proofs.read_back.Addresses.{address_back, address_some, address_visible}
use Rattle.call_files.proofs.read_back.Texts.{all_of_both, is_low, utf8_from_low, visible_low}

-- ---- names
-- the parts of the test of a name
record IsNameText (name : List ℕ) : Type 0 where
  some : 0 < length name
  visible : list_all is_visible name ≡ true

name_parts : (name : List ℕ) → IsName name → IsNameText name
name_parts [] h = absurd (let impossible : ⊥ = cc in impossible)
name_parts (b ∷ bs) h =
    let parts = and_parts (nat_le 1 (length (b ∷ bs)) && nat_le (length (b ∷ bs)) 128)
    (list_all is_visible (b ∷ bs)) h in
    record { some = omega arith; visible = parts.1 }

pub name_visible : (name : List ℕ) → IsName name → list_all is_visible name ≡ true
name_visible name h = (name_parts name h).visible

pub name_back : (name : List ℕ) → IsName name → name_of name ≡ Some name
name_back name h = ap (λ b. then_some b name) h

name_word : (name : List ℕ) → IsName name → is_word name ≡ true
name_word name h = let parts = name_parts name h in word_from name parts.some parts.visible

-- ---- words
-- a word, a name and an address are words
three_words : (kind name : List ℕ) (a : AddressParts) → is_word kind ≡ true → IsName name
    → IsAddress a → words_of (spaced (kind ∷ name ∷ address_text a ∷ []))
    ≡ kind ∷ name ∷ address_text a ∷ []
three_words kind name a word named addressed =
    let address = word_from (address_text a) (address_some a) (address_visible a addressed) in
    words_back (kind ∷ name ∷ address_text a ∷ [])
    (and_from _ _ word (and_from _ _ (name_word name named) (and_from _ _ address refl)))

-- they say the destination of the kind
said_back : (kind name : List ℕ) (a : AddressParts) → is_word kind ≡ true → IsName name
    → IsAddress a → destination_of (words_of (spaced (kind ∷ name ∷ address_text a ∷ [])))
    ≡ destination_at kind name a
said_back kind name a word named addressed =
    ap destination_of (three_words kind name a word named addressed)
    ∙ ap (λ n. option_and_then (λ n. option_and_then (λ a. destination_at kind n a)
    (address_of 1720 (address_text a))) n) (name_back name named)
    ∙ ap (option_and_then (λ a. destination_at kind name a)) (address_back a addressed)

destination_back : (d : Destination) → IsDestination d
    → destination_of (words_of (destination_text d)) ≡ Some d
destination_back (Gateway id address) (named, addressed) =
    said_back (codes "GW") id address refl named addressed
destination_back (Terminal id address) (named, addressed) =
    said_back (codes "TERM") id address refl named addressed
destination_back (Zone name address) (named, addressed) =
    said_back (codes "ZONE") name address refl named addressed

-- ---- a route
printed_back : (d : Destination) → printed_as (destination_text d) (Some d) ≡ Some d
printed_back d =
    ap (λ b. then_some b d) ((bytes_eq-Decides (destination_text d) (destination_text d)).1 refl)

-- the text of a destination is no word of a refusal
no_refusal : (d : Destination) → route_of (destination_text d)
    ≡ option_map To (printed_as (destination_text d) (destination_of (words_of (destination_text d))))
no_refusal (Gateway id address) = refl
no_refusal (Terminal id address) = refl
no_refusal (Zone name address) = refl

pub route_back : (r : Route) → IsRoute r → route_of (route_text r) ≡ Some r
route_back (To d) h =
    no_refusal d
    ∙ ap (λ o. option_map To (printed_as (destination_text d) o)) (destination_back d h)
    ∙ ap (option_map To) (printed_back d)
route_back (Refused UnknownPrefix) h = refl
route_back (Refused NoGateway) h = refl
route_back (Refused NoDefault) h = refl

-- ---- it is UTF-8
spaced_low : (kind name : List ℕ) (a : AddressParts) → list_all is_low kind ≡ true → IsName name
    → IsAddress a → list_all is_low (spaced (kind ∷ name ∷ address_text a ∷ [])) ≡ true
spaced_low kind name a low named addressed =
    let address = visible_low (address_text a) (address_visible a addressed) in
    let last = all_of_both is_low (address_text a) [] address refl in
    let rest = all_of_both is_low name (32 ∷ (address_text a ++ []))
    (visible_low name (name_visible name named)) last in
    all_of_both is_low kind (32 ∷ (name ++ (32 ∷ (address_text a ++ [])))) low rest

destination_low : (d : Destination) → IsDestination d
    → list_all is_low (destination_text d) ≡ true
destination_low (Gateway id address) (named, addressed) =
    spaced_low (codes "GW") id address refl named addressed
destination_low (Terminal id address) (named, addressed) =
    spaced_low (codes "TERM") id address refl named addressed
destination_low (Zone name address) (named, addressed) =
    spaced_low (codes "ZONE") name address refl named addressed

pub route_utf8 : (r : Route) → IsRoute r → is_utf8 (route_text r) ≡ true
route_utf8 (To d) h = utf8_from_low (destination_text d) (destination_low d h)
route_utf8 (Refused UnknownPrefix) h = utf8_from_low (codes "unknown-prefix") refl
route_utf8 (Refused NoGateway) h = utf8_from_low (codes "no-gateway") refl
route_utf8 (Refused NoDefault) h = utf8_from_low (codes "no-default") refl
