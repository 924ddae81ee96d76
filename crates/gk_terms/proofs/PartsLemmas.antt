-- Parts of a text between separators: there is always one.
use Rattle.std.proofs.Common.{◌≡◌, ℕ, ◌<◌, ◌≤◌, Bool, false, List, [], ◌∷◌, length, refl, arith}
use Rattle.std.specs.Prelude.{None}
use Rattle.std.specs.List.{slice_split, position_or_len}
use Rattle.std.proofs.lemmas.List.Elements.{All-from_get_or}
use Rattle.std.proofs.lemmas.List.Sums.{fails_before_first}
use Rattle.std.proofs.lemmas.Bool.Decides.{nat_tests}
use Rattle.std.proofs.lemmas.List.Splits.{length-slice_split, slice_split_none}
use Rattle.gk_terms.specs.Address.{port_of_last, address_of_parts, address_from, ip_of, octets_of_four}

pub some_part : (p : ℕ → Bool) (text : List ℕ) → 0 < length (slice_split p text)
some_part p text = omega (arith, length-slice_split p text)

no_port_before : (part : List ℕ) (parts : List (List ℕ)) → 0 < length parts → port_of_last
    (part ∷ parts) ≡ None
no_port_before part [] h = absurd (omega arith)
no_port_before part (next ∷ parts) h = refl

-- a part with another after it is not a last port
pub no_port_before_part : (p : ℕ → Bool) (part text : List ℕ) → port_of_last
    (part ∷ slice_split p text) ≡ None
no_port_before_part p part text = no_port_before part _ (some_part p text)

with_parts : (default_port : ℕ) (ip : List ℕ) (parts : List (List ℕ)) → 0 < length parts →
    address_of_parts default_port (ip ∷ parts) ≡ address_from (ip_of ip) (port_of_last parts)
with_parts default_port ip [] h = absurd (omega arith)
with_parts default_port ip (next ∷ parts) h = refl

-- an address with a port
pub address_with_port : (p : ℕ → Bool) (default_port : ℕ) (ip text : List ℕ) → address_of_parts
    default_port (ip ∷ slice_split p text) ≡ address_from (ip_of ip)
    (port_of_last (slice_split p text))
address_with_port p default_port ip text = with_parts default_port ip _ (some_part p text)

more_than_four : (a b c d : List ℕ) (parts : List (List ℕ)) → 0 < length parts → octets_of_four
    (a ∷ b ∷ c ∷ d ∷ parts) ≡ None
more_than_four a b c d [] h = absurd (omega arith)
more_than_four a b c d (e ∷ parts) h = grind (arith, nat_tests)

-- four parts with another after them are not an IPv4 address
pub no_ip_of_five : (p : ℕ → Bool) (a b c d text : List ℕ) → octets_of_four
    (a ∷ b ∷ c ∷ d ∷ slice_split p text) ≡ None
no_ip_of_five p a b c d text = more_than_four a b c d _ (some_part p text)

-- a text without a separator is one part
pub one_part : (p : ℕ → Bool) (text : List ℕ) → length text ≤ position_or_len p text → slice_split p
    text ≡ text ∷ []
one_part p text h =
    slice_split_none p text (All-from_get_or (λ b. p b ≡ false) text 0
    (λ i within. fails_before_first p text i 0 (omega (arith, h, within))))
