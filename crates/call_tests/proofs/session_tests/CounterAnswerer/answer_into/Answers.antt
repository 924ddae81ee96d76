use Rattle.std.proofs.Common.{ap}
use Rattle.gk_protocol.specs.ReplyText.{ReplyParts}
use Rattle.gk_protocol.specs.declared.answers.Answer.TheVariants.{Malformed}
use Rattle.gk_protocol.specs.declared.request_faults.RequestFault.TheVariants.{CutShort}
use Rattle.call_tests.proofs.session_tests.CounterAnswerer.answer_into.Goals as goal

pub returns : goal.returns
returns g = (Malformed CutShort, tt, ap (λ (to : ReplyParts). to.text) g.show.ensures)
