use Rattle.std.proofs.Common.{◌≡◌, ◌≤◌, ◌<◌, ◌+◌, ℕ, take, None}
use Rattle.compiler.specs.TablesIndex.{technology_at}
use Rattle.compiler.proofs.technologies.technology_of.Given as goal

abbrev pub invariant-loop-shorter : goal.invariant-loop-shorter
invariant-loop-shorter l =
    (length : ℕ) → l.most < length + l.shorter → length ≤ l.most
    → technology_at l.technologies (take length l.text) ≡ None
