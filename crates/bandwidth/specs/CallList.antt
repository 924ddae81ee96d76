-- Calls under their numbers, as a hash map has them, and the same in order of number.
use Rattle.std.specs.Prelude.{◌≡◌, ◌<◌, ◌^◌, ℕ, List, [], ◌∷◌}
use Rattle.std.specs.List.{AllByRecursion}
use Rattle.std.specs.List.Sorted.{IsStrictlySortedBy}
use Rattle.std.specs.BTreeMap.{insert_entry}
use Rattle.std.specs.Map.{keys_of}
use Rattle.std.specs.Ordering.{nat_cmp}
use Rattle.bandwidth.specs.declared.open_call.OpenCall.{OpenCall}

-- the same calls in order of number
abbrev pub by_number : List (ℕ × OpenCall) → List (ℕ × OpenCall)
by_number [] = []
by_number (entry ∷ entries) = insert_entry nat_cmp (by_number entries) entry.0 entry.1

-- a call under its number, whose bandwidth fits 32 bits
pub record IsUnderNumber (entry : ℕ × OpenCall) : Type 0 where
  pub number : entry.0 ≡ entry.1.number
  pub small : entry.1.units < 2 ^ 32

pub record IsCallList (entries : List (ℕ × OpenCall)) : Type 0 where
  pub numbered : AllByRecursion IsUnderNumber entries
  pub sorted : IsStrictlySortedBy nat_cmp (keys_of entries)
