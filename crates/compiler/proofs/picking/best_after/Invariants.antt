use Rattle.std.proofs.Common.{◌≡◌, take}
use Rattle.compiler.specs.TablesIndex.{best_after}
use Rattle.compiler.proofs.picking.best_after.Given as goal

abbrev pub invariant-loop-name : goal.invariant-loop-name
invariant-loop-name l =
    l.best ≡ best_after l.zones.entries l.initial.best (take l.name-index l.names)
