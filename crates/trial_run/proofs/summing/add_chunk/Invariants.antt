use Rattle.std.proofs.Common.{◌≡◌, ◌<◌, ◌≤◌, ℕ, length}
use Rattle.std.specs.Prelude.{Some, slice_get}
use Rattle.trial_run.specs.Levels.{over_chunk}
use Rattle.trial_run.specs.declared.standings.Summary.{Summary}
use Rattle.trial_run.specs.declared.standings.Standing.{Standing}
use Rattle.trial_run.proofs.summing.add_chunk.Given as goal

abbrev pub invariant-loop-place : goal.invariant-loop-place
invariant-loop-place l =
    (length l.standings ≡ length l.fn.standings)
    × ((place : ℕ) (s : Standing) (c : Summary) → place < l.place
    → slice_get l.fn.standings place ≡ Some s
    → slice_get l.summaries place ≡ Some c → slice_get l.standings place ≡ Some (over_chunk s c))
    × ((place : ℕ) → l.place ≤ place → slice_get l.standings place ≡ slice_get l.fn.standings place)
