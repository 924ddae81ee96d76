use Rattle.std.proofs.Common.{◌≡◌, ◌++◌, take}
use Rattle.plan_difference.specs.Gathered.{patterns_of}
use Rattle.plan_difference.proofs.gathering.add_patterns_of.Given as goal

abbrev pub invariant-loop-command : goal.invariant-loop-command
invariant-loop-command l =
    l.patterns.items ≡ l.initial.patterns.items ++ patterns_of (take l.command-index l.commands)
