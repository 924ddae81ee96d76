-- The text of an address reads as the address.
use Rattle.std.proofs.Common.{◌≡◌, ℕ, ◌<◌, ◌≤◌, Bool, true, false, List, [], ◌∷◌, ◌++◌, length, length-append, map, Some, refl, ap, ◌∙◌, arith}
use Rattle.std.specs.Prelude.{◌||◌, ◌==◌, decimal, flat_map}
use Rattle.std.specs.Char.{is_ascii_digit}
use Rattle.std.specs.List.{All, AllByRecursion, list_all, slice_split}
use Rattle.std.proofs.lemmas.Bool.{and_parts, and_from}
use Rattle.std.proofs.lemmas.Bool.Decides.{nat_tests}
use Rattle.std.proofs.lemmas.List.{append-nil}
use Rattle.std.proofs.lemmas.List.Elements.{All-from_recursion, All-head, All-tail}
use Rattle.std.proofs.lemmas.List.Splits.{slice_split_at, slice_split_none}
use Rattle.gk_terms.specs.Address.{AddressParts, address_from, address_of, address_of_parts, address_text, ip_of, ip_text, octets_of, octets_of_four, port_of_last, with_octet}
use Rattle.gk_terms.specs.Spelling.{is_visible}
use Rattle.call_files.specs.ReadBack.{IsAddress}
use Rattle.call_files.proofs.read_back.Numbers.{decimal_digits, number_of_decimal}
use Rattle.call_files.proofs.read_back.Texts.{all_of_both, all_so}

abbrev IsOctet : ℕ → Type 0
IsOctet octet = octet ≤ 255

-- a text of bytes of which none is a separator
free_of : (p q : ℕ → Bool) → ((b : ℕ) → p b ≡ true → q b ≡ false) → (text : List ℕ)
    → list_all p text ≡ true → AllByRecursion (λ b. q b ≡ false) text
free_of p q so [] h = tt
free_of p q so (b ∷ bs) h =
    let parts = and_parts (p b) (list_all p bs) h in
    (so b parts.0, free_of p q so bs parts.1)

abbrev is_dot : ℕ → Bool
is_dot b = b == 46

abbrev is_colon : ℕ → Bool
is_colon b = b == 58

-- a byte of an IP address
abbrev is_ip_byte : ℕ → Bool
is_ip_byte b = is_ascii_digit b || (b == 46)

no_dot : (b : ℕ) → is_ascii_digit b ≡ true → is_dot b ≡ false
no_dot b h = grind (arith, nat_tests)

no_colon : (b : ℕ) → is_ip_byte b ≡ true → is_colon b ≡ false
no_colon b h = grind (arith, nat_tests)

digit_in_ip : (b : ℕ) → is_ascii_digit b ≡ true → is_ip_byte b ≡ true
digit_in_ip b h = grind (arith, nat_tests)

visible_in_ip : (b : ℕ) → is_ip_byte b ≡ true → is_visible b ≡ true
visible_in_ip b h = grind (arith, nat_tests)

visible_digit : (b : ℕ) → is_ascii_digit b ≡ true → is_visible b ≡ true
visible_digit b h = grind (arith, nat_tests)

abbrev dotted : List ℕ → List ℕ
dotted others = flat_map (λ b. 46 ∷ decimal b) others

-- ---- the parts of an IP address
no_dots : (a : ℕ) → IsOctet a → All (λ b. is_dot b ≡ false) (decimal a)
no_dots a h =
    All-from_recursion (λ b. is_dot b ≡ false) (decimal a)
    (free_of is_ascii_digit is_dot no_dot (decimal a) (decimal_digits a (omega (arith, h))))

split_ip : (a : ℕ) (others : List ℕ) → All IsOctet (a ∷ others)
    → slice_split is_dot (decimal a ++ dotted others) ≡ map decimal (a ∷ others)
split_ip a [] h =
    ap (slice_split is_dot) (append-nil (decimal a))
    ∙ slice_split_none is_dot (decimal a) (no_dots a (All-head IsOctet a [] h))
split_ip a (b ∷ others) h =
    slice_split_at is_dot (decimal a) 46 (decimal b ++ dotted others)
    (no_dots a (All-head IsOctet a (b ∷ others) h)) refl
    ∙ ap (λ parts. decimal a ∷ parts) (split_ip b others (All-tail IsOctet a (b ∷ others) h))

octets_back : (octets : List ℕ) → All IsOctet octets → octets_of (map decimal octets) ≡ Some octets
octets_back [] h = refl
octets_back (a ∷ others) h =
    let small = All-head IsOctet a others h in
    ap (λ o. with_octet o (octets_of (map decimal others)))
    (number_of_decimal 0 255 a (omega (arith, small)) (omega arith) small)
    ∙ ap (with_octet (Some a)) (octets_back others (All-tail IsOctet a others h))

ip_back : (ip : List ℕ) → length ip ≡ 4 → All IsOctet ip → ip_of (ip_text ip) ≡ Some ip
ip_back [] four h = absurd (omega (arith, four))
ip_back (a ∷ []) four h = absurd (omega (arith, four))
ip_back (a ∷ b ∷ []) four h = absurd (omega (arith, four))
ip_back (a ∷ b ∷ c ∷ []) four h = absurd (omega (arith, four))
ip_back (a ∷ b ∷ c ∷ d ∷ []) four h =
    ap octets_of_four (split_ip a (b ∷ c ∷ d ∷ []) h) ∙ octets_back (a ∷ b ∷ c ∷ d ∷ []) h
ip_back (a ∷ b ∷ c ∷ d ∷ e ∷ more) four h = absurd (omega (arith, four))

-- ---- an IP address and a port
ip_bytes : (ip : List ℕ) → All IsOctet ip → list_all is_ip_byte (dotted ip) ≡ true
ip_bytes [] h = refl
ip_bytes (a ∷ others) h =
    let small = All-head IsOctet a others h in
    all_of_both is_ip_byte (decimal a) (dotted others)
    (all_so is_ascii_digit is_ip_byte digit_in_ip (decimal a)
    (decimal_digits a (omega (arith, small))))
    (ip_bytes others (All-tail IsOctet a others h))

ip_text_bytes : (ip : List ℕ) → All IsOctet ip → list_all is_ip_byte (ip_text ip) ≡ true
ip_text_bytes [] h = refl
ip_text_bytes (a ∷ others) h = ip_bytes (a ∷ others) h

pub address_back : (a : AddressParts) → IsAddress a → address_of 1720 (address_text a) ≡ Some a
address_back a (four, octets, least, most) =
    let ip_free = All-from_recursion (λ b. is_colon b ≡ false) (ip_text a.ip)
    (free_of is_ip_byte is_colon no_colon (ip_text a.ip) (ip_text_bytes a.ip octets)) in
    let port_free = All-from_recursion (λ b. is_colon b ≡ false) (decimal a.port)
    (free_of is_ascii_digit is_colon (λ b h. no_colon b (digit_in_ip b h)) (decimal a.port)
    (decimal_digits a.port (omega (arith, most)))) in
    let parts : slice_split is_colon (address_text a) ≡ ip_text a.ip ∷ decimal a.port ∷ [] =
    slice_split_at is_colon (ip_text a.ip) 58 (decimal a.port) ip_free refl
    ∙ ap (λ rest. ip_text a.ip ∷ rest) (slice_split_none is_colon (decimal a.port) port_free) in
    ap (address_of_parts 1720) parts
    ∙ ap (λ ip. address_from ip (port_of_last (decimal a.port ∷ []))) (ip_back a.ip four octets)
    ∙ ap (address_from (Some a.ip))
    (number_of_decimal 1 65535 a.port (omega (arith, most)) least most)

-- ---- it is a word
pub address_visible : (a : AddressParts) → IsAddress a
    → list_all is_visible (address_text a) ≡ true
address_visible a (four, octets, least, most) =
    all_of_both is_visible (ip_text a.ip) (58 ∷ decimal a.port)
    (all_so is_ip_byte is_visible visible_in_ip (ip_text a.ip) (ip_text_bytes a.ip octets))
    (and_from _ _ refl (all_so is_ascii_digit is_visible visible_digit (decimal a.port)
    (decimal_digits a.port (omega (arith, most)))))

pub address_some : (a : AddressParts) → 0 < length (address_text a)
address_some a = omega (arith, length-append (ip_text a.ip) (58 ∷ decimal a.port))
