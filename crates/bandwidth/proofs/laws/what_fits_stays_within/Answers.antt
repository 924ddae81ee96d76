use Rattle.bandwidth.proofs.FitLaws.{opening_within, raise_within, raised_from_within}
use Rattle.bandwidth.proofs.laws.what_fits_stays_within.Goals as goal

pub returns-clause-opening : goal.returns-clause-opening
returns-clause-opening c commands calls call = opening_within commands calls call

pub returns-clause-raise : goal.returns-clause-raise
returns-clause-raise c commands calls number units held =
    raise_within commands calls number units held

pub returns-clause-before : goal.returns-clause-before
returns-clause-before c commands calls number units held =
    raised_from_within commands calls number units held
