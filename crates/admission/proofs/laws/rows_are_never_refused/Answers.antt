-- No row of a record is refused.
use Rattle.admission.proofs.RowLawLemmas.{rows_are_never_refused}
use Rattle.admission.proofs.laws.rows_are_never_refused.Goals as goal

pub returns : goal.returns
returns c = rows_are_never_refused
