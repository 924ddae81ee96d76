use Rattle.std.proofs.Common.{ap, subst, ◌∙◌}
use Rattle.rulings.specs.Events.{event_meant}
use Rattle.admission.specs.Answering.{answered, reply_kept}
use Rattle.admission.proofs.AnsweringLemmas.{kept_some, kept_steps}
use Rattle.decision_record.specs.History.{CoreParts, generations, Steps}
use Rattle.live_desk.specs.Seats.{unreserved}
use Rattle.live_desk.proofs.Grows.{stays, steps_shown}
use Rattle.live_desk.proofs.live.Live.step.Goals as goal

pub returns-clause-kept : goal.returns-clause-kept
returns-clause-kept g c = kept_some _ _ _ _ _ c.step.ensures.step

pub returns-clause-step : goal.returns-clause-step
returns-clause-step g c =
    subst (λ (core : CoreParts). Steps core (event_meant c.args.event.now)
    (answered (event_meant c.args.event.now) (reply_kept c.step.new.taker.kept) c.step.result)
    (unreserved c.step.new.self)) c.self.view_is
    (steps_shown _ _ _ _ (kept_steps _ _ _ _ _ c.step.ensures.step))

pub returns-clause-published : goal.returns-clause-published
returns-clause-published g c =
    stays _ _ _ _ c.requires.other (kept_steps _ _ _ _ _ c.step.ensures.step)
    ∙ ap generations c.self.view_is
