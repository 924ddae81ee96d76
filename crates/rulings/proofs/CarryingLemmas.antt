-- What a machine does whatever the commands in force are.
use Rattle.std.proofs.Common.{◌≡◌, List, Option, Some, None, refl}
use Rattle.std.specs.Prelude.{IsSome}
use Rattle.gk_commands.specs.declared.commands.Command.{Command}
use Rattle.rulings.specs.State.{MachineParts, bare, under}
use Rattle.rulings.specs.Events.{PlainEvent, Registering, Unregistering, Admitting, Answering, Changing, Releasing, Reloading, put_in_force}
use Rattle.rulings.specs.Step.{lack_of, with_commands, with_effect}
use Rattle.rulings.specs.Founded.{IsUnder}
use Rattle.rulings.specs.declared.rulings.Effect.TheVariants.{PutInForce}
use Rattle.rulings.specs.Ruling.{Ruling}

-- commands are put in force alike
pub put_under : (commands : List Command) (old new : MachineParts) (event : PlainEvent)
    → IsSome (put_in_force event) → IsUnder new (with_effect (bare old) event PutInForce)
    → IsUnder new (with_effect (under commands old) event PutInForce)
put_under commands old new event puts h = by (put_in_force event) puts h
  where
    by : (asked : Option (List Command)) → IsSome asked
        → IsUnder new (with_commands (bare old) asked)
        → IsUnder new (with_commands (under commands old) asked)
    by None some h = let impossible : ⊥ = cc in absurd impossible
    by (Some others) some h = h

-- an event lacks the same
pub lacks_alike : (commands : List Command) (m : MachineParts) (event : PlainEvent)
    (ruling : Ruling) → lack_of (bare m) event ruling ≡ lack_of (under commands m) event ruling
lacks_alike commands m (Registering e) ruling = refl
lacks_alike commands m (Unregistering id) ruling = refl
lacks_alike commands m (Admitting id call digits units) ruling = refl
lacks_alike commands m (Answering id call units) ruling = refl
lacks_alike commands m (Changing id call units) ruling = refl
lacks_alike commands m (Releasing id call) ruling = refl
lacks_alike commands m (Reloading others) ruling = refl
