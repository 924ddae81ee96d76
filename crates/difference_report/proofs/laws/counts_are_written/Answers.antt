use Rattle.std.proofs.Common.{refl}
use Rattle.std.specs.Fmt.{digits}
use Rattle.difference_report.proofs.laws.counts_are_written.Goals as goal

pub returns-clause-exact : goal.returns-clause-exact
unfolding digits
returns-clause-exact c = refl

pub returns-clause-about : goal.returns-clause-about
unfolding digits
returns-clause-about c = refl

pub returns-clause-carried : goal.returns-clause-carried
unfolding digits
returns-clause-carried c = refl

pub returns-clause-half : goal.returns-clause-half
unfolding digits
returns-clause-half c = refl

pub returns-clause-longest : goal.returns-clause-longest
unfolding digits
returns-clause-longest c = refl

pub returns-clause-one : goal.returns-clause-one
unfolding digits
returns-clause-one c = refl

pub returns-clause-many : goal.returns-clause-many
unfolding digits
returns-clause-many c = refl
