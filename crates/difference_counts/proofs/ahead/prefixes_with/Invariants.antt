use Rattle.std.proofs.Common.{◌≡◌, take, filter}
use Rattle.difference_counts.specs.Places.{has_at}
use Rattle.difference_counts.proofs.ahead.prefixes_with.Given as goal

abbrev pub invariant-loop-prefix : goal.invariant-loop-prefix
invariant-loop-prefix l =
    l.kept.items ≡ filter (has_at l.place l.character) (take l.prefix-index l.prefixes)
