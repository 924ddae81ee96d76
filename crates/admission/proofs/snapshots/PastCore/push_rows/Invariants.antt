use Rattle.std.proofs.Common.{◌≡◌, take}
use Rattle.decision_record.specs.Rows.{rows_of}
use Rattle.admission.proofs.snapshots.PastCore.push_rows.Given as goal

abbrev pub invariant-loop-place : goal.invariant-loop-place
invariant-loop-place l =
    l.snapshot
    ≡ record l.fn.snapshot { rows = rows_of l.self.opening (take l.place l.self.entries) }
