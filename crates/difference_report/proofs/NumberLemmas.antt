-- The number of the set at a place.
use Rattle.std.proofs.Common.{◌≡◌, ℕ, zero, suc, List, [], ◌∷◌, map, slice_get, refl}
use Rattle.std.specs.Prelude.{IfSome, unwrap_or}
use Rattle.std.specs.Map.{keys_of}
use Rattle.plan_difference.specs.declared.number_sets.NumberSet.{NumberSet}
use Rattle.plan_difference.specs.Entries.{Entries}

pub number_at_place : (number : NumberSet → ℕ) (entries : Entries) (place : ℕ)
    → IfSome (slice_get entries place) (λ entry.
    unwrap_or (slice_get (map number (keys_of entries)) place) 0 ≡ number entry.0)
number_at_place number [] place = tt
number_at_place number (entry ∷ entries) zero = refl
number_at_place number (entry ∷ entries) (suc place) = number_at_place number entries place
