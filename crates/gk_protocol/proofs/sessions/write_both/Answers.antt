use Rattle.gk_protocol.proofs.WritingLemmas.{second_front}
use Rattle.gk_protocol.proofs.sessions.write_both.Goals as goal

pub returns-in-Ok-clause-front : goal.returns-in-Ok-clause-front
returns-in-Ok-clause-front g c =
    second_front c.write_whole-in-Ok.result _ _ _ _ _ c.in-Ok.ensures.whole
    c.write_whole-in-Ok.ensures.front
