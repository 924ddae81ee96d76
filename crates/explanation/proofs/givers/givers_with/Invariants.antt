use Rattle.std.proofs.Common.{◌≡◌, take}
use Rattle.std.specs.Prelude.{flat_map}
use Rattle.explanation.specs.Steps.{giver_in}
use Rattle.explanation.proofs.givers.givers_with.Given as goal

abbrev pub invariant-loop-place : goal.invariant-loop-place
invariant-loop-place l =
    l.givers.items ≡ flat_map (giver_in l.tables.commands l.prefix)
    (take l.place l.registry.endpoints)
