use Rattle.std.proofs.Common.{◌∙◌, ap}
use Rattle.std.specs.Map.{keys_of}
use Rattle.compiler.proofs.RowLemmas.{patterns-insert}
use Rattle.compiler.proofs.rows.add_row.Goals as goal

pub returns-clause-patterns : goal.returns-clause-patterns
returns-clause-patterns c =
    ap keys_of c.in_ok-insert.ensures.entries
    ∙ patterns-insert c.args.rows.now.entries c.args.pattern.now c.better-best.result
