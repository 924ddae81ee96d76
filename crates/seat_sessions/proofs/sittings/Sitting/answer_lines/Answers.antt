use Rattle.rulings.specs.State.{opening_of}
use Rattle.seat_sessions.proofs.SeatLemmas.{reloads, tries}
use Rattle.seat_sessions.proofs.sittings.Sitting.answer_lines.Goals as goal

pub returns-in-Reload : goal.returns-in-Reload
returns-in-Reload g c =
    reloads (opening_of g.J.House.begun g.J.House.limits) c.args.self.now c.args.request.now _ _
    c.reload.result c.reload.new.self c.in-Reload.is c.reload.ensures

pub returns-in-Try : goal.returns-in-Try
returns-in-Try g c =
    tries (opening_of g.J.House.begun g.J.House.limits) c.args.self.now c.args.request.now _ _ _
    c.tried.result c.tried.new.self c.in-Try.is c.tried.ensures.looks c.tried.ensures.tried
