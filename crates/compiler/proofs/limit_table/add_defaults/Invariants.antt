use Rattle.std.proofs.Common.{◌≡◌, ◌≤◌, ◌<◌, ℕ, slice_get}
use Rattle.compiler.specs.TablesIndex.{limits_with}
use Rattle.compiler.proofs.limit_table.add_defaults.Given as goal

abbrev pub invariant-loop-place : goal.invariant-loop-place
invariant-loop-place l = record {
  before : (k : ℕ) → k < l.place
      → slice_get l.limits k ≡ limits_with l.zones.entries l.defaults l.initial.limits k;
  after : (k : ℕ) → l.place ≤ k → slice_get l.limits k ≡ slice_get l.initial.limits k;
}
