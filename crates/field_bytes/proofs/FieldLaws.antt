-- What is added of a field reads back, whatever follows it.
use Rattle.std.proofs.Common.{◌≡◌, ℕ, ◌<◌, ◌==◌, ◌^◌, Bool, false, ltb, List, ◌++◌, length, take, drop, Option, Some, refl, ap, ◌∙◌, append_assoc, length-append, arith}
use Rattle.std.specs.Bool.{then_some}
use Rattle.std.specs.Int.{w16, to_le_bytes, from_le_bytes}
use Rattle.std.proofs.lemmas.Bool.{le-ltb}
use Rattle.std.proofs.lemmas.Bool.Decides.{nat_tests}
use Rattle.std.proofs.lemmas.List.{take_at, drop_at}
use Rattle.std.proofs.lemmas.Nat.{from_le_bytes-to_le_bytes_2, from_le_bytes-to_le_bytes_4}
use Rattle.gk_terms.specs.Address.{AddressParts}
use Rattle.gk_terms.specs.Dialled.{IsDialled, dialled_of}
use Rattle.gk_terms.specs.Name.{IsName, name_of}
use Rattle.field_bytes.specs.Fields.{◌>>=◌, ReadsBack, IsAddress, address_at, address_bytes, address_in, dialled_in, name_in, number_bytes, number_in, spelled_in, text_bytes, text_in}

-- ---- numbers
pub number_back : (number : ℕ) → number < 2 ^ 32
    → ReadsBack number_in number (number_bytes number)
number_back number small rest =
    let bytes = number_bytes number in
    let long : ltb (length (bytes ++ rest)) 4 ≡ false =
    le-ltb _ _ (omega (arith, length-append bytes rest)) in
    rw (long) (ap (λ (n : ℕ). Some (n, rest)) (from_le_bytes-to_le_bytes_4 number small))

-- ---- texts
text_back : (text : List ℕ) → ReadsBack text_in text (text_bytes text)
text_back text rest =
    let long : ltb (length (text ++ rest)) (length text) ≡ false =
    le-ltb _ _ (omega (arith, length-append text rest)) in
    rw (
      long,
      take_at text rest (length text) refl,
      drop_at text rest (length text) refl,
    ) refl

spelled_back : (value : List ℕ → Option (List ℕ)) (text : List ℕ) → value text ≡ Some text
    → ReadsBack (spelled_in value) text (text_bytes text)
spelled_back value text spells rest =
    ap (λ (read : Option (List ℕ × List ℕ)). read >>= λ t. value t.0 >>= λ x. Some (x, t.1))
    (text_back text rest)
    ∙ ap (λ (v : Option (List ℕ)). v >>= λ x. Some (x, rest)) spells

pub name_back : (name : List ℕ) → IsName name → ReadsBack name_in name (text_bytes name)
name_back name is =
    spelled_back name_of name (ap (λ (b : Bool). then_some b name) is)

pub dialled_back : (digits : List ℕ) → IsDialled digits
    → ReadsBack dialled_in digits (text_bytes digits)
dialled_back digits is =
    spelled_back dialled_of digits (ap (λ (b : Bool). then_some b digits) is)

-- ---- addresses
pub address_back : (a : AddressParts) → IsAddress a → ReadsBack address_in a (address_bytes a)
address_back a is rest =
    let port = to_le_bytes w16 a.port in
    let bytes = (a.ip ++ port) ++ rest in
    let ip_size = is.ip in
    let least = is.least in
    let size : length (a.ip ++ port) ≡ 6 = omega (arith, length-append a.ip port, ip_size) in
    let long : ltb (length bytes) 6 ≡ false =
    le-ltb _ _ (omega (arith, size, length-append (a.ip ++ port) rest)) in
    let split : bytes ≡ a.ip ++ (port ++ rest) = append_assoc a.ip port rest in
    let ip : take 4 bytes ≡ a.ip = ap (take 4) split ∙ take_at a.ip (port ++ rest) 4 is.ip in
    let after : drop 4 bytes ≡ port ++ rest =
    ap (drop 4) split ∙ drop_at a.ip (port ++ rest) 4 is.ip in
    let number : from_le_bytes w16 (take 2 (drop 4 bytes)) ≡ a.port =
    ap (λ (l : List ℕ). from_le_bytes w16 (take 2 l)) after
    ∙ from_le_bytes-to_le_bytes_2 a.port is.most in
    let end : drop 6 bytes ≡ rest = drop_at (a.ip ++ port) rest 6 size in
    let some : (a.port == 0) ≡ false = grind (arith, nat_tests) in
    rw long (
    ap (λ (l : List ℕ). address_at l (from_le_bytes w16 (take 2 (drop 4 bytes))) (drop 6 bytes)) ip
    ∙ ap (λ (n : ℕ). address_at a.ip n (drop 6 bytes)) number
    ∙ ap (λ (l : List ℕ). address_at a.ip a.port l) end
    ∙ rw some refl
    )
