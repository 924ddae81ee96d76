use Rattle.std.proofs.Common.{ap, ◌∙◌}
use Rattle.rulings.specs.State.{State}
use Rattle.admission.proofs.CoreLemmas.{stands_as, is_sound}
use Rattle.admission.proofs.cores.Core.version.Goals as goal

pub returns-clause-version : goal.returns-clause-version
returns-clause-version c =
    c.version.ensures.version
    ∙ ap (λ (s : State). s.version) (stands_as _ _ _ c.self.invariant.0 _ c.self.view_is)

pub returns-clause-generations : goal.returns-clause-generations
returns-clause-generations c =
    c.version.ensures.version
    ∙ ap (λ (s : State). s.version) (stands_as _ _ _ c.self.invariant.0 _ c.self.view_is)
    ∙ (is_sound _ _ _ c.self.invariant.0 _ c.self.view_is).version_is
