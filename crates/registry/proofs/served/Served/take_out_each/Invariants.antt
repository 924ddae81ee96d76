use Rattle.std.proofs.Common.{take}
use Rattle.std.specs.Option.{option_copied}
use Rattle.registry.specs.Served.{TakesOut}
use Rattle.registry.proofs.served.Served.take_out_each.Given as goal

abbrev pub invariant-loop-prefix : goal.invariant-loop-prefix
invariant-loop-prefix l =
    TakesOut l.fn.self l.self l.number l.zone (take l.prefix-index l.prefixes)
    (option_copied l.kept)
