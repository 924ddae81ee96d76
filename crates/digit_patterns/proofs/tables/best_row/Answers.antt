use Rattle.std.proofs.Common.{◌∙◌, drop}
use Rattle.digit_patterns.proofs.Ranks.{best_of-after}
use Rattle.digit_patterns.proofs.tables.best_row.Goals as goal

-- what one pass over all rows keeps is the best row
pub returns : goal.returns
returns c =
    c.loop-row.invariant ∙ best_of-after c.args.rows.now (drop c.args.from c.args.dialled.now)
    c.loop-row.row-index c.loop-row-test.false
