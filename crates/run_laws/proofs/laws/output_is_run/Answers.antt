use Rattle.run_laws.proofs.OutputLemmas.{output_runs}
use Rattle.run_laws.proofs.laws.output_is_run.Goals as goal

pub returns : goal.returns
returns c = output_runs
