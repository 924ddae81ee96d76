use Rattle.std.proofs.Common.{subst}
use Rattle.registry.specs.Registration.{IsRegistry}
use Rattle.registry.proofs.registry.Registry.len.Goals as goal

pub returns-clause-sound : goal.returns-clause-sound
returns-clause-sound c = subst IsRegistry c.self.view_is (record {
  different = c.len.ensures.different;
  unshared = c.len.ensures.unshared;
  within = c.self.invariant;
})
