-- The fields of an entry as bytes, and what is read of them: a value, with the bytes after it.
use Rattle.std.specs.Prelude.{◌≡◌, ℕ, ◌==◌, ◌<◌, ◌≤◌, ◌^◌, nat_lt, List, [], ◌∷◌, ◌++◌, length, take, drop, Option, Some, None, MatchOption, if◌then◌else◌}
use Rattle.std.specs.Int.{w16, w32, to_le_bytes, from_le_bytes}
use Rattle.gk_terms.specs.Address.{AddressParts}
use Rattle.gk_terms.specs.Dialled.{dialled_of}
use Rattle.gk_terms.specs.Name.{name_of}

-- ---- reading
infixl 10 ◌>>=◌
-- the next field is read only if those before it were
abbrev pub ◌>>=◌ : {A B : Type 0} → Option A → (A → Option B) → Option B
None >>= f = None
(Some x) >>= f = f x

-- what a reader of a field gives: the value, with these bytes left; or nothing
abbrev pub Gives : {A : Type 0} → Option (A × List ℕ) → Option A → List ℕ → Type 0
Gives read result rest = MatchOption result (read ≡ None) (λ x. read ≡ Some (x, rest))

-- the bytes of a value are read as that value, whatever follows them
abbrev pub ReadsBack : {A : Type 0} → (List ℕ → Option (A × List ℕ)) → A → List ℕ → Type 0
ReadsBack read x bytes = (rest : List ℕ) → read (bytes ++ rest) ≡ Some (x, rest)

-- ---- numbers
abbrev pub byte_in : List ℕ → Option (ℕ × List ℕ)
byte_in [] = None
byte_in (byte ∷ rest) = Some (byte, rest)

-- four bytes, the low one first
abbrev pub number_bytes : ℕ → List ℕ
number_bytes number = to_le_bytes w32 number

abbrev pub number_in : List ℕ → Option (ℕ × List ℕ)
number_in bytes =
    if nat_lt (length bytes) 4 then None else Some (from_le_bytes w32 (take 4 bytes), drop 4 bytes)

-- ---- texts
-- a text after its length, in one byte
abbrev pub text_bytes : List ℕ → List ℕ
text_bytes text = length text ∷ text

-- a text of so many bytes
abbrev pub text_of_size : ℕ → List ℕ → Option (List ℕ × List ℕ)
text_of_size size bytes =
    if nat_lt (length bytes) size then None else Some (take size bytes, drop size bytes)

abbrev pub text_in : List ℕ → Option (List ℕ × List ℕ)
text_in bytes = byte_in bytes >>= λ size. text_of_size size.0 size.1

-- a text, as this function reads it
abbrev pub spelled_in : {A : Type 0} → (List ℕ → Option A) → List ℕ → Option (A × List ℕ)
spelled_in value bytes = text_in bytes >>= λ text. value text.0 >>= λ x. Some (x, text.1)

abbrev pub name_in : List ℕ → Option (List ℕ × List ℕ)
name_in bytes = spelled_in name_of bytes

abbrev pub dialled_in : List ℕ → Option (List ℕ × List ℕ)
dialled_in bytes = spelled_in dialled_of bytes

-- ---- addresses
-- four bytes of the IP address and two of the port, the low one first
abbrev pub address_bytes : AddressParts → List ℕ
address_bytes a = a.ip ++ to_le_bytes w16 a.port

-- a port is at least 1
abbrev pub address_at : List ℕ → ℕ → List ℕ → Option (AddressParts × List ℕ)
address_at ip port rest =
    if port == 0 then None else Some (record { ip = ip; port = port }, rest)

abbrev pub address_in : List ℕ → Option (AddressParts × List ℕ)
address_in bytes =
    if nat_lt (length bytes) 6 then None
    else address_at (take 4 bytes) (from_le_bytes w16 (take 2 (drop 4 bytes))) (drop 6 bytes)

-- as every address is
pub record IsAddress (a : AddressParts) : Type 0 where
  pub ip : length a.ip ≡ 4
  pub least : 1 ≤ a.port
  pub most : a.port < 2 ^ 16
