use Rattle.std.specs.Prelude.{take}
use Rattle.std.specs.List.{All}
use Rattle.decision_record.specs.History.{Stands}
use Rattle.decision_record.proofs.record.Record.first_astray.Given as goal

abbrev pub invariant-loop-place : goal.invariant-loop-place
invariant-loop-place l = All (Stands l.self.entries) (take l.place l.receipts)
