use Rattle.std.proofs.Common.{refl, subst}
use Rattle.std.specs.Arc.{arc_value}
use Rattle.rulings.specs.Events.{Reloading}
use Rattle.rulings.specs.State.{opening_of}
use Rattle.live_desk.specs.Seats.{SeatParts}
use Rattle.seat_sessions.specs.SeatAnswers.{MaySay}
use Rattle.seat_sessions.proofs.SeatLemmas.{said_as}
use Rattle.seat_sessions.proofs.sittings.Sitting.put_in_force.Goals as goal

pub returns : goal.returns
returns g c =
    let asked = c.put_in_force-asked.ensures in (
      c.reply_in-reply.result,
      refl,
      subst
          (λ (s : SeatParts). MaySay (opening_of g.J.House.begun g.J.House.limits) s
          (Reloading (arc_value c.args.tables).commands) c.reply_in-reply.result
          c.put_in_force-asked.new.self)
          c.self.view_is
          (said_as _ _ _ _ _ _ c.reply_in-reply.ensures asked.asked asked.book
          (asked.lost, asked.seen)),
    )
