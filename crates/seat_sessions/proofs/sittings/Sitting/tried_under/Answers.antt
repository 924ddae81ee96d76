use Rattle.std.proofs.Common.{◌∙◌, inr, subst, sym}
use Rattle.rulings.specs.State.{opening_of}
use Rattle.seat_sessions.specs.SeatAnswers.{TriesFor}
use Rattle.seat_sessions.proofs.SeatLemmas.{tries_on}
use Rattle.seat_sessions.proofs.sittings.Sitting.tried_under.Goals as goal
use Rattle.seat_sessions.proofs.sittings.Sitting.tried_under.Goals.{in-Ok, in-Err}

pub returns-clause-tried : goal.returns-clause-tried
returns-clause-tried g c = elim c.match-snapshot.branch [
  | in-Ok w ↦
      subst (λ a. TriesFor (opening_of g.J.House.begun g.J.House.limits) c.args.self.now
      c.snapshot.new.self c.args.sequence c.args.tables.now a) (sym w.result-is)
      (tries_on (opening_of g.J.House.begun g.J.House.limits) c.self.inside.seat c.args.self.now
      c.snapshot.new.self c.args.sequence c.args.tables.now c.snapshot.result w.in-Ok.snapshot
      w.trial_answer.result c.self.view_is c.snapshot.ensures.shown w.in-Ok.is
      w.trial_answer.ensures)
  | in-Err w ↦ inr (w.result-is ∙ w.trial_without_memory.ensures)
]
