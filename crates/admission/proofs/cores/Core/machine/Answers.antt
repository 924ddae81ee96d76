use Rattle.admission.proofs.CoreLemmas.{machine_is}
use Rattle.admission.proofs.cores.Core.machine.Goals as goal

pub returns : goal.returns
returns c = machine_is _ _ _ c.self.invariant.0 _ c.self.view_is
