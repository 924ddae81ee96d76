use Rattle.std.proofs.Common.{◌≡◌, ◌≤◌, ◌∷◌, [], ℕ, List, Ok, length}
use Rattle.call_files.specs.Calls.{said}
use Rattle.call_files.specs.RecordReader.{HasRead, IsPast, IsReading}
use Rattle.call_files.proofs.reading.rows_under.Given as goal

abbrev pub invariant-loop-rows : goal.invariant-loop-rows
invariant-loop-rows l =
    IsReading l.reader
    × (l.rows ≡ length l.snapshot.rows) × (l.rows ≤ 1000000) × (l.snapshot.endpoints ≡ [])
    × ((text : List ℕ) (names : List (List ℕ)) → IsPast text names l.fn.reader
    → (records : List (List (List ℕ))) × HasRead text (names ∷ records) l.reader
    × (said (Ok []) records ≡ Ok l.snapshot.rows))
