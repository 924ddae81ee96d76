use Rattle.std.proofs.Common.{◌≡◌, take, filter}
use Rattle.difference_counts.specs.Ahead.{pattern_has_at}
use Rattle.difference_counts.proofs.ahead.patterns_with.Given as goal

abbrev pub invariant-loop-pattern : goal.invariant-loop-pattern
invariant-loop-pattern l =
    l.kept.items ≡ filter (pattern_has_at l.place l.character) (take l.pattern-index l.patterns)
