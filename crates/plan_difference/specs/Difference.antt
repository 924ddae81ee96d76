-- Which digits two configurations plan otherwise.
use Rattle.std.specs.Prelude.{◌≡◌, ℕ, Bool, true, false, List, slice_get, Option, Some, ⊤, ◌⊎◌}
use Rattle.gk_terms.specs.Dialled.{IsDialled}
use Rattle.gk_commands.specs.declared.commands.Command.{Command}
use Rattle.compiler.specs.Plan.{Target, RemoteZone, LocalZone, CallersZone, UnknownPrefix, plan_of}
use Rattle.compiler.specs.Priority.{priority_of}
use Rattle.compiler.specs.Rows.{ZoneRow}
use Rattle.plan_difference.specs.declared.number_sets.NumberSet.{NumberSet}
use Rattle.plan_difference.specs.Sets.{Covers}

-- each gateway has the same priority for both rows
abbrev pub SamePriorities : List Command → Option ZoneRow → List Command → Option ZoneRow → Type 0
SamePriorities old row new other =
    (gateway : List ℕ) → priority_of old row gateway ≡ priority_of new other gateway

-- two configurations send a call to the same place: a remote zone of the same name and address; a
-- local zone of the same name with the same technology prefix, with the same priority of each
-- gateway; the caller's zone with the same technology prefix; or nowhere. By the configurations
-- alone: what gateways give when they register is not in a target
abbrev pub Same : List Command → Target → List Command → Target → Type 0
Same old (RemoteZone zone address) new (RemoteZone other other_address) =
    (zone ≡ other) × (address ≡ other_address)
Same old (RemoteZone zone address) new (LocalZone other technology row) = ⊥
Same old (RemoteZone zone address) new (CallersZone technology) = ⊥
Same old (RemoteZone zone address) new UnknownPrefix = ⊥
Same old (LocalZone zone technology row) new (RemoteZone other address) = ⊥
Same old (LocalZone zone technology row) new (LocalZone other other_technology other_row) =
    (zone ≡ other) × (technology ≡ other_technology) × SamePriorities old row new other_row
Same old (LocalZone zone technology row) new (CallersZone other) = ⊥
Same old (LocalZone zone technology row) new UnknownPrefix = ⊥
Same old (CallersZone technology) new (RemoteZone other address) = ⊥
Same old (CallersZone technology) new (LocalZone other other_technology row) = ⊥
Same old (CallersZone technology) new (CallersZone other) = technology ≡ other
Same old (CallersZone technology) new UnknownPrefix = ⊥
Same old UnknownPrefix new (RemoteZone other address) = ⊥
Same old UnknownPrefix new (LocalZone other technology row) = ⊥
Same old UnknownPrefix new (CallersZone technology) = ⊥
Same old UnknownPrefix new UnknownPrefix = ⊤

-- an answer, and what it says
abbrev pub Tells : Bool → Type 0 → Type 0
Tells true P = P
Tells false P = ¬ P

-- two configurations plan digits alike
abbrev pub SamePlan : (old new : List Command) → List ℕ → Type 0
SamePlan old new digits = Same old (plan_of old digits) new (plan_of new digits)

-- a set stands at a place of a list
abbrev pub StandsAt : List NumberSet → ℕ → NumberSet → Type 0
StandsAt sets place set = slice_get sets place ≡ Some set

-- a set of the list covers the digits
pub record IsCovered (old new : List Command) (sets : List NumberSet) (digits : List ℕ)
    : Type 0 where
  pub place : ℕ
  pub set : NumberSet
  pub stands : StandsAt sets place set
  pub covers : Covers old new set digits

-- a set of the list covers some digits
pub record HasWitness (old new : List Command) (set : NumberSet) : Type 0 where
  pub digits : List ℕ
  pub covers : Covers old new set digits

-- the sets are those of all dialled digits
pub record AreClasses (old new : List Command) (sets : List NumberSet) : Type 0 where
  -- dialled digits are covered
  pub complete : (digits : List ℕ) → IsDialled digits → IsCovered old new sets digits
  -- by one set alone
  pub once : (place other : ℕ) (set other_set : NumberSet) (digits : List ℕ)
      → StandsAt sets place set → StandsAt sets other other_set
      → Covers old new set digits → Covers old new other_set digits → place ≡ other
  -- each set covers some
  pub witness : (place : ℕ) (set : NumberSet) → StandsAt sets place set → HasWitness old new set

-- the sets are exactly those of digits that are planned otherwise
pub record IsDifference (old new : List Command) (sets : List NumberSet) : Type 0 where
  -- digits are planned alike, or they are covered
  pub complete : (digits : List ℕ) → IsDialled digits
      → SamePlan old new digits ⊎ IsCovered old new sets digits
  -- digits that are covered are planned otherwise
  pub sound : (place : ℕ) (set : NumberSet) (digits : List ℕ) → StandsAt sets place set
      → Covers old new set digits → ¬ SamePlan old new digits
  -- by one set alone
  pub once : (place other : ℕ) (set other_set : NumberSet) (digits : List ℕ)
      → StandsAt sets place set → StandsAt sets other other_set
      → Covers old new set digits → Covers old new other_set digits → place ≡ other
  -- each set covers some
  pub witness : (place : ℕ) (set : NumberSet) → StandsAt sets place set → HasWitness old new set
