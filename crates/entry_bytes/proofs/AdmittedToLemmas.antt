-- Where a call leads that is known to be admitted: each field is there.
use Rattle.std.proofs.Common.{◌≡◌, ℕ, List, Option, Some, None}
use Rattle.std.specs.Prelude.{IsSome}
use Rattle.gk_terms.specs.Address.{AddressParts}
use Rattle.rulings.specs.declared.lent_routes.DestinationKind.{DestinationKind}
use Rattle.field_bytes.specs.Fields.{◌>>=◌, address_in, byte_in, name_in}
use Rattle.entry_bytes.specs.Codes.{destination_kind_of}
use Rattle.entry_bytes.specs.VerdictBytes.{admitted_in}
use Rattle.entry_bytes.specs.declared.verdicts.Verdict.{Verdict}
use Rattle.entry_bytes.specs.declared.verdicts.Verdict.TheVariants as verdict
use Rattle.entry_bytes.proofs.KnownLemmas.{first, never, after}

abbrev Read : Type 0
Read = Option (Verdict × List ℕ)

-- what is read after each field
abbrev address_then : List ℕ → DestinationKind → List ℕ → AddressParts × List ℕ → Read
address_then zone kind name address = Some (verdict.Admitted zone kind name address.0, address.1)

abbrev name_then : List ℕ → DestinationKind → List ℕ × List ℕ → Read
name_then zone kind name = address_in name.1 >>= address_then zone kind name.0

abbrev kind_then : List ℕ → List ℕ → DestinationKind → Read
kind_then zone rest kind = name_in rest >>= name_then zone kind

abbrev code_then : List ℕ → ℕ × List ℕ → Read
code_then zone code = destination_kind_of code.0 >>= kind_then zone code.1

abbrev zone_then : List ℕ × List ℕ → Read
zone_then zone = byte_in zone.1 >>= code_then zone.0

pub zone_there : (bytes : List ℕ) → IsSome (admitted_in bytes) → IsSome (name_in bytes)
zone_there bytes known = first (name_in bytes) zone_then known

module _ (bytes zone after_zone : List ℕ) (known : IsSome (admitted_in bytes))
    (zone_is : name_in bytes ≡ Some (zone, after_zone)) where
  to_zone : IsSome (zone_then (zone, after_zone))
  to_zone = after (name_in bytes) zone_then (zone, after_zone) zone_is known

  pub code_there : byte_in after_zone ≡ None → ⊥
  code_there none = never (byte_in after_zone) (code_then zone) to_zone none

  module _ (code : ℕ) (after_code : List ℕ) (code_is : byte_in after_zone ≡ Some (code, after_code))
    where
      to_code : IsSome (code_then zone (code, after_code))
      to_code = after (byte_in after_zone) (code_then zone) (code, after_code) code_is to_zone

      pub kind_there : destination_kind_of code ≡ None → ⊥
      kind_there none = never (destination_kind_of code) (kind_then zone after_code) to_code none

      module _ (kind : DestinationKind) (kind_is : destination_kind_of code ≡ Some kind) where
        to_kind : IsSome (kind_then zone after_code kind)
        to_kind = after (destination_kind_of code) (kind_then zone after_code) kind kind_is to_code

        pub name_there : IsSome (name_in after_code)
        name_there = first (name_in after_code) (name_then zone kind) to_kind

        module _ (name after_name : List ℕ) (name_is : name_in after_code ≡ Some (name, after_name))
          where
            pub address_there : address_in after_name ≡ None → ⊥
            address_there none =
                never (address_in after_name) (address_then zone kind name)
                (after (name_in after_code) (name_then zone kind) (name, after_name) name_is
                to_kind)
                none
