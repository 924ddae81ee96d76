use Rattle.std.proofs.Common.{◌≡◌, take, map}
use Rattle.trial_run.specs.declared.standings.Standing.{Standing}
use Rattle.trial_run.proofs.summing.tops.Given as goal

abbrev pub invariant-loop-standing : goal.invariant-loop-standing
invariant-loop-standing l = l.tops.items ≡ map (λ (s : Standing). s.top) (take l.standing-index
    l.standings)
