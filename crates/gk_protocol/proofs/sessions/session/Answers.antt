use Rattle.gk_protocol.proofs.SessionLemmas.{with_ahead}
use Rattle.gk_protocol.proofs.sessions.session.Goals as goal

pub returns-clause-written : goal.returns-clause-written
returns-clause-written g c =
    with_ahead g.A.Answerer.may_answer _ _ _ _ _ _ _ _ _ _ c.new-lines.ensures c.let_go.ensures
    c.session_from-result.ensures.written
