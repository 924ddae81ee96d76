use Rattle.std.proofs.Common.{sym, ap, ◌∙◌}
use Rattle.std.specs.Option.{option_map}
use Rattle.rulings.specs.Events.{event_meant}
use Rattle.gk_protocol.specs.ReplyText.{ReplyParts}
use Rattle.gk_protocol.proofs.AnswerLemmas.{answered_into, asks_no_reload}
use Rattle.gk_protocol.proofs.trying_core.TryingCoreAnswerer.answer_into.Goals as goal

pub step-number-requires-clause-other : goal.step-number-requires-clause-other
step-number-requires-clause-other g c =
    asks_no_reload _ _ (sym c.event.ensures ∙ ap (option_map event_meant) c.in-Some.is)

pub returns-in-Some : goal.returns-in-Some
returns-in-Some g c =
    answered_into _ _ _ _ _ _ _ _ c.self.view_is
    (sym c.event.ensures ∙ ap (option_map event_meant) c.in-Some.is) c.step-number.ensures.step
    (c.step-number.ensures.same ∙ ap (λ (to : ReplyParts). to.sequence) c.repeat.ensures
    ∙ c.sequence.ensures)
