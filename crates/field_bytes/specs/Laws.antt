-- What is added of a field reads back, whatever follows it.
use Rattle.std.specs.Prelude.{ℕ, ◌<◌, ◌^◌, List}
use Rattle.gk_terms.specs.Address.{AddressParts}
use Rattle.gk_terms.specs.Dialled.{IsDialled}
use Rattle.gk_terms.specs.Name.{IsName}
use Rattle.field_bytes.specs.Fields.{ReadsBack, IsAddress, address_bytes, address_in, dialled_in, name_in, number_bytes, number_in, text_bytes}

abbrev pub NumbersReadBack : Type 0
NumbersReadBack =
    (number : ℕ) → number < 2 ^ 32 → ReadsBack number_in number (number_bytes number)

abbrev pub NamesReadBack : Type 0
NamesReadBack = (name : List ℕ) → IsName name → ReadsBack name_in name (text_bytes name)

abbrev pub DialledDigitsReadBack : Type 0
DialledDigitsReadBack =
    (digits : List ℕ) → IsDialled digits → ReadsBack dialled_in digits (text_bytes digits)

abbrev pub AddressesReadBack : Type 0
AddressesReadBack =
    (address : AddressParts) → IsAddress address
    → ReadsBack address_in address (address_bytes address)
