use Rattle.std.proofs.Common.{◌≡◌, None, take, drop, fold, filter}
use Rattle.gk_terms.specs.Choice.{better}
use Rattle.digit_patterns.specs.Table.{ranks_above, row_matches}
use Rattle.digit_patterns.proofs.tables.best_row.Given as goal

abbrev pub invariant-loop-row : goal.invariant-loop-row
invariant-loop-row l =
    l.best ≡ fold (better ranks_above) None (filter (row_matches (drop l.from l.dialled))
    (take l.row-index l.rows))
