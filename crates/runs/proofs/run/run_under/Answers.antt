use Rattle.std.proofs.Common.{◌∙◌}
use Rattle.gk_protocol.specs.CoreAnswers.{MayAnswer}
use Rattle.runs.proofs.RunLemmas.{under_serves}
use Rattle.runs.proofs.run.run_under.Goals as goal

pub returns-clause-written : goal.returns-clause-written
returns-clause-written g c =
    under_serves MayAnswer _ _ _ _ _ _ _ _ _ (c.new-core.ensures ∙ c.in_ok-core.ensures.opened)
    c.into_core.ensures c.session-replies.ensures.written
