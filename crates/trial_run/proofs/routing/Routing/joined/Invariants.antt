use Rattle.std.proofs.Common.{◌*◌, length, take}
use Rattle.call_rows.specs.Rows.{admissions_of}
use Rattle.trial_run.specs.Tried.{AreJoined}
use Rattle.trial_run.proofs.routing.Routing.joined.Given as goal

abbrev pub invariant-loop-piece : goal.invariant-loop-piece
invariant-loop-piece g l =
    (goal.iterator-loop-piece g).can_next l.piece-iterator
    × (goal.iterator-loop-piece g).is_finite l.piece-iterator
    × AreJoined l.self.tables.now.commands l.self.registry.now.endpoints
    (take (length l.yielded * l.self.size) (admissions_of l.self.snapshot.now.rows)) l.tried
