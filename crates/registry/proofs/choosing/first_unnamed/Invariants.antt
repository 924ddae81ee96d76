use Rattle.std.proofs.Common.{◌-◌}
use Rattle.registry.proofs.UnnamedLemmas.{AllNamedBefore}
use Rattle.registry.proofs.choosing.first_unnamed.Given as goal

-- each that serves before this number is named
abbrev pub invariant-loop-number : goal.invariant-loop-number
invariant-loop-number l =
    AllNamedBefore l.endpoints.entries l.named.entries l.zone l.prefix l.from

abbrev pub decreases-loop-number : goal.decreases-loop-number
decreases-loop-number l = l.end - l.from
