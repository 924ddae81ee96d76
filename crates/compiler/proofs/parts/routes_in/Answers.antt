use Rattle.compiler.specs.Rows.{rows_of}
use Rattle.compiler.proofs.PlanLemmas.{no_duplicate}
use Rattle.compiler.proofs.parts.routes_in.Goals as goal

pub prefixes_in-requires-clause-distinct : goal.prefixes_in-requires-clause-distinct
prefixes_in-requires-clause-distinct c =
    no_duplicate c.in_ok-rows.rows.entries (rows_of c.args.commands.now)
    c.in_ok-rows.ensures.rows.patterns
