use Rattle.std.proofs.Common.{◌≡◌, ◌==◌, take, filter}
use Rattle.std.specs.List.{starts_with}
use Rattle.difference_counts.proofs.ahead.patterns_from.Given as goal

abbrev pub invariant-loop-pattern : goal.invariant-loop-pattern
invariant-loop-pattern l =
    l.kept.items
    ≡ filter (λ pattern. starts_with ◌==◌ pattern.literals l.text) (take l.pattern-index l.patterns)
