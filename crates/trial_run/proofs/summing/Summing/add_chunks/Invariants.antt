use Rattle.std.proofs.Common.{◌*◌, take, map}
use Rattle.call_rows.specs.Moves.{move_in}
use Rattle.trial_run.specs.Levels.{AreNumbered, IsLow, chunk_most, ground, standing_from}
use Rattle.trial_run.specs.Touched.{touching}
use Rattle.trial_run.proofs.summing.Summing.add_chunks.Given as goal

abbrev pub invariant-loop-piece : goal.invariant-loop-piece
invariant-loop-piece l =
    AreNumbered l.self.zones (λ zone. standing_from (touching l.self.touched.now zone) ground
    (take (l.piece-index * l.self.size) (map move_in l.self.steps.now))) l.standings
    × IsLow (l.piece-index * chunk_most) l.standings
