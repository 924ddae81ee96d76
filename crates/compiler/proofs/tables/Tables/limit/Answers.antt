use Rattle.std.proofs.Common.{ap, ◌∙◌}
use Rattle.compiler.specs.TablesIndex.{limit_in}
use Rattle.compiler.proofs.LimitLemmas.{limit_of_kind}
use Rattle.compiler.proofs.tables.Tables.limit.Goals as goal

pub returns : goal.returns
returns c =
    c.of.ensures ∙ ap (λ limits. limit_in limits c.args.kind) c.limits.ensures
    ∙ limit_of_kind c.args.self.now.commands c.args.kind c.args.zone.now
