-- The refusals of a registration in the words of a reply.
use Rattle.registry.specs.declared.faults.PlacementFault.{PlacementFault}
use Rattle.registry.specs.declared.faults.PlacementFault.TheVariants as faults
use Rattle.rulings.specs.declared.replies.RegisterRefusal.{RegisterRefusal}
use Rattle.rulings.specs.declared.replies.RegisterRefusal.TheVariants as register

-- why a registry refuses a registration, room and memory aside
abbrev pub refusal_of : PlacementFault → RegisterRefusal
refusal_of faults.UnknownZone = register.UnknownZone
refusal_of (faults.DuplicateAlias duplicate) = register.DuplicateAlias duplicate
