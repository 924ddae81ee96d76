use Rattle.std.proofs.Common.{◌≡◌, drop}
use Rattle.std.specs.Prelude.{slice_get, vec_items}
use Rattle.std.specs.List.{flat_map}
use Rattle.trial_run.proofs.report.row_in.Given as goal

abbrev pub invariant-loop-piece : goal.invariant-loop-piece
invariant-loop-piece l =
    slice_get (flat_map vec_items l.pieces) l.fn.place
    ≡ slice_get (flat_map vec_items (drop l.piece-index l.pieces)) l.left
