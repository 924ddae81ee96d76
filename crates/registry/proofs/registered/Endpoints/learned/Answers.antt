use Rattle.std.proofs.Common.{◌≡◌, subst}
use Rattle.std.specs.Map.{values_of}
use Rattle.compiler.specs.Technology.{longest_learned}
use Rattle.registry.specs.Learned.{learned_prefixes}
use Rattle.registry.specs.NumberedEndpoints.{NumberedParts}
use Rattle.registry.proofs.LearnedLemmas.{longest_is_learned}
use Rattle.registry.proofs.registered.Endpoints.learned.Goals as goal

pub returns : goal.returns
returns c =
    let commands = c.args.tables.now.commands in
    let text = c.args.text.now in
    let least = c.args.least in
    subst (λ (r : NumberedParts). c.longest_local.result
    ≡ longest_learned (learned_prefixes commands (values_of r.entries)) text least) c.self.view_is
    (longest_is_learned commands c.self.inside.serving c.self.inside.by_number.entries
    c.self.invariant.1
    c.self.invariant.0.sorted text least c.longest_local.result c.longest_local.ensures)
