use Rattle.std.proofs.Common.{length, ap, arith}
use Rattle.registry.specs.NumberedEndpoints.{endpoints_of}
use Rattle.registry.proofs.KeepingLemmas.{no_more_stay}
use Rattle.registry.proofs.registry.Registry.keep_zones.Goals as goal

pub invariant_of-self : goal.invariant_of-self
invariant_of-self c =
    let shorter = no_more_stay c.args.tables.now.commands (endpoints_of c.self.inside.endpoints) in
    let left = ap length c.keep_zones.ensures in
    let within = c.self.invariant in
    omega (arith, shorter, left, within)
