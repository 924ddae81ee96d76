use Rattle.std.proofs.Common.{◌≡◌, ◌++◌}
use Rattle.explanation.specs.Steps.{ranked, ranked_below}
use Rattle.explanation.proofs.candidates.rank.Given as goal

abbrev pub invariant-loop-left : goal.invariant-loop-left
invariant-loop-left l =
    l.list.items ++ ranked_below l.left l.candidates ≡ ranked l.candidates

abbrev pub decreases-loop-left : goal.decreases-loop-left
decreases-loop-left l = l.left
