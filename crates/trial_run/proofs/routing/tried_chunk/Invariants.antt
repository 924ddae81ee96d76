use Rattle.std.proofs.Common.{◌≡◌, take, drop}
use Rattle.call_rows.specs.Rows.{admissions_of}
use Rattle.trial_run.specs.Tried.{tried_rows, tried_touched}
use Rattle.trial_run.proofs.routing.tried_chunk.Given as goal

abbrev pub invariant-loop-turn : goal.invariant-loop-turn
invariant-loop-turn l =
    (l.chunk.rows.items ≡ tried_rows l.tables.commands l.registry.endpoints
    (take l.turn (drop l.from (admissions_of l.snapshot.rows))))
    × (l.chunk.touched.items ≡ tried_touched l.tables.commands l.registry.endpoints
    (take l.turn (drop l.from (admissions_of l.snapshot.rows))))
