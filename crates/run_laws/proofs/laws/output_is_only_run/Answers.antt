use Rattle.run_laws.proofs.OutputLemmas.{output_lasts, output_is_only}
use Rattle.run_laws.proofs.laws.output_is_only_run.Goals as goal

pub returns-clause-run : goal.returns-clause-run
returns-clause-run c = output_lasts

pub returns-clause-only : goal.returns-clause-only
returns-clause-only c = output_is_only
