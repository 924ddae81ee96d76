use Rattle.std.proofs.Common.{take}
use Rattle.registry.specs.Served.{AddsPlaces}
use Rattle.registry.proofs.served.Served.add_each.Given as goal

abbrev pub invariant-loop-prefix : goal.invariant-loop-prefix
invariant-loop-prefix l =
    AddsPlaces l.fn.self l.self l.number l.zone (take l.prefix-index l.prefixes)
