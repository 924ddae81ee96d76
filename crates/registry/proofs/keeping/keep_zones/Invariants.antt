use Rattle.std.proofs.Common.{◌-◌}
use Rattle.registry.proofs.KeepingLemmas.{StayBelow}
use Rattle.registry.proofs.keeping.keep_zones.Given as goal

-- the same stay as at first, and each before this number is in a local zone
abbrev pub invariant-loop-number : goal.invariant-loop-number
invariant-loop-number l = StayBelow l.tables.commands l.fn.endpoints l.endpoints l.from

abbrev pub decreases-loop-number : goal.decreases-loop-number
decreases-loop-number l = l.endpoints.next - l.from
