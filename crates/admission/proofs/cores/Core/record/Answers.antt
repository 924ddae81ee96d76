use Rattle.admission.proofs.CoreLemmas.{are_accepted, is_legal, is_sound}
use Rattle.admission.proofs.cores.Core.record.Goals as goal

pub returns-clause-legal : goal.returns-clause-legal
returns-clause-legal c = is_legal _ _ _ c.self.invariant.0 _ c.self.view_is

pub returns-clause-sound : goal.returns-clause-sound
returns-clause-sound c = is_sound _ _ _ c.self.invariant.0 _ c.self.view_is

pub returns-clause-accepted : goal.returns-clause-accepted
returns-clause-accepted c = are_accepted _ _ _ c.self.invariant.0 _ c.self.view_is
