use Rattle.std.proofs.Common.{inl, refl}
use Rattle.gk_terms.specs.Text.{lines_of}
use Rattle.seat_sessions.proofs.SeatLemmas.{looked_for, tried_for}
use Rattle.seat_sessions.proofs.sittings.Sitting.tried.Goals as goal

pub returns-in-Ok-clause-tried : goal.returns-in-Ok-clause-tried
returns-in-Ok-clause-tried g c =
    tried_for _ c.args.self.now c.tried_under.new.self c.args.sequence c.args.workers
    (lines_of c.args.lines.now) _ c.in-Ok.ensures.0 c.in-Ok.ensures.1 _ c.tried_under.ensures.tried

pub returns-in-Ok-clause-looks : goal.returns-in-Ok-clause-looks
returns-in-Ok-clause-looks g c =
    looked_for _ c.args.self.now c.tried_under.new.self c.args.workers
    (lines_of c.args.lines.now) _ c.in-Ok.ensures.0 c.in-Ok.ensures.1 c.tried_under.ensures.looks

pub returns-in-Err-clause-looks : goal.returns-in-Err-clause-looks
returns-in-Err-clause-looks g c = inl refl
