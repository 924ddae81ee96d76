use Rattle.rulings.specs.State.{opening_of}
use Rattle.live_desk.proofs.Grows.{looked, snapshot_for}
use Rattle.live_desk.proofs.seats.Seat.snapshot.Goals as goal

pub returns-in-Ok-clause-shown : goal.returns-in-Ok-clause-shown
returns-in-Ok-clause-shown g c =
    snapshot_for (opening_of g.J.House.begun g.J.House.limits) c.args.self.now
    c.past-past.new.seat c.deref_mut.result.now.entries c.in-Ok.past c.snapshot.result
    c.past-past.ensures.lawful c.past-past.ensures.long c.past-past.ensures.astray
    c.past-past.ensures.seat c.in-Ok.ensures.past c.snapshot.ensures

pub returns-in-Ok-clause-looks : goal.returns-in-Ok-clause-looks
returns-in-Ok-clause-looks g c =
    looked _ c.args.self.now c.past-past.new.seat c.deref_mut.result.now.entries
    c.past-past.ensures.lawful c.past-past.ensures.long c.past-past.ensures.astray
    c.past-past.ensures.seat

pub returns-in-Err-clause-looks : goal.returns-in-Err-clause-looks
returns-in-Err-clause-looks g c =
    looked _ c.args.self.now c.past-past.new.seat c.deref_mut.result.now.entries
    c.past-past.ensures.lawful c.past-past.ensures.long c.past-past.ensures.astray
    c.past-past.ensures.seat
