use Rattle.std.proofs.Common.{ap, ◌∙◌}
use Rattle.admission.specs.Answering.{reply_kept}
use Rattle.gk_protocol.specs.declared.answers.Answer.TheVariants as answers
use Rattle.gk_protocol.specs.Answers.{answer_text_of}
use Rattle.seat_sessions.proofs.SeatLemmas.{said_kept}
use Rattle.seat_sessions.proofs.sittings.Sitting.reply_into.Goals as goal

pub returns : goal.returns
returns g c =
    let asked = c.ask_lent-number.ensures in (
      c.reply.result,
      c.take_reply.ensures.taken
          ∙ ap (λ n. answer_text_of (answers.Reply n c.reply.result))
          (c.take_reply.ensures.same ∙ ap (λ r. r.sequence) c.repeat.ensures),
      said_kept _ _ _ _ _ c.reply.result _ _ c.self.view_is (ap reply_kept c.reply.ensures)
          asked.asked asked.some asked.none (asked.lost, asked.seen),
    )
