use Rattle.std.proofs.Common.{refl}
use Rattle.gk_terms.specs.Text.{lines_of}
use Rattle.gk_protocol.specs.CoreAnswers.{MayShow, shown_by}
use Rattle.gk_protocol.proofs.TrialLemmas.{tried_on}
use Rattle.gk_protocol.proofs.trials.tried.Goals as goal

pub returns-in-Ok : goal.returns-in-Ok
returns-in-Ok g c =
    tried_on MayShow c.args.core.now c.args.sequence c.args.workers (lines_of c.args.lines.now) _
    c.in-Ok.ensures.0 c.in-Ok.ensures.1 (shown_by c.args.core.now) _ refl c.tried_under.ensures
