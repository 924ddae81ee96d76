use Rattle.std.proofs.Common.{ap, subst}
use Rattle.registry.specs.Registration.{HaveDifferentIds, ShareNoAlias}
use Rattle.registry.specs.NumberedEndpoints.{endpoints_of}
use Rattle.registry.proofs.SoundLemmas.{different_ids, no_shared_alias}
use Rattle.registry.proofs.registered.Endpoints.len.Goals as goal

pub returns-clause-different : goal.returns-clause-different
returns-clause-different c =
    subst HaveDifferentIds (ap endpoints_of c.self.view_is)
    (different_ids c.self.inside.by_number.entries c.self.inside.alias_numbers.entries
    c.self.invariant.0)

pub returns-clause-unshared : goal.returns-clause-unshared
returns-clause-unshared c =
    subst ShareNoAlias (ap endpoints_of c.self.view_is)
    (no_shared_alias c.self.inside.by_number.entries c.self.inside.alias_numbers.entries
    c.self.invariant.0)
