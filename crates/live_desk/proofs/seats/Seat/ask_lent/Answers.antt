use Rattle.std.proofs.Common.{sym, ap, subst}
use mathlib.Core.List.{IsPrefix}
use Rattle.rulings.specs.Events.{event_meant}
use Rattle.admission.specs.Answering.{answered, reply_kept}
use Rattle.live_desk.specs.Seats.{SeatParts}
use Rattle.publisher.proofs.Prefixes.{prefix_trans}
use Rattle.live_desk.proofs.Grows.{asked_kept}
use Rattle.live_desk.proofs.seats.Seat.ask_lent.Goals as goal

pub returns-in-Some-clause-asked : goal.returns-in-Some-clause-asked
returns-in-Some-clause-asked g c =
    asked_kept _ c.args.self.now c.plan-routed.new.self _ _ _ c.ask-number.new.seat
    c.keep.new.self _
    c.plan-routed.ensures.same.0 c.plan-routed.ensures.same.1 c.plan-routed.ensures.same.2
    (ap (answered (event_meant c.args.event.now) (reply_kept c.ask-number.new.kept.kept))
    c.in-Some.is)
    c.keep.ensures c.ask-number.ensures.asked

pub returns-in-Some-clause-seen : goal.returns-in-Some-clause-seen
returns-in-Some-clause-seen g c =
    subst (IsPrefix c.args.self.now.seen)
    (sym (ap (λ (s : SeatParts). s.seen) c.keep.ensures))
    (prefix_trans _ _ _ c.plan-routed.ensures.seen c.ask-number.ensures.seen)
