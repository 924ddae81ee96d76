use Rattle.std.proofs.Common.{◌≡◌, ◌<◌, ◌≤◌, ℕ}
use Rattle.std.specs.Prelude.{slice_index_or, vec_len, vec_capacity}
use Rattle.trial_run.proofs.sharing.start_all.Given as goal

abbrev pub invariant-loop-number : goal.invariant-loop-number
invariant-loop-number g l =
    (vec_len l.started ≡ l.number)
    × (l.count ≤ vec_capacity l.started)
    × ((k : ℕ) (d : _) → k < l.number → (slice_index_or l.started.items k d).promise.number ≡ k)
    × ((k : ℕ) (d : _) → k < l.number → (slice_index_or l.started.items k d).promise.work.value
    ≡ l.fn.work)
