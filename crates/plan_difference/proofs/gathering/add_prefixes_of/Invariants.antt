use Rattle.std.proofs.Common.{◌≡◌, ◌++◌, take}
use Rattle.plan_difference.proofs.GatherLemmas.{heads_of}
use Rattle.plan_difference.proofs.gathering.add_prefixes_of.Given as goal

abbrev pub invariant-loop-command : goal.invariant-loop-command
invariant-loop-command l =
    l.heads.items ≡ l.initial.heads.items ++ heads_of (take l.command-index l.commands)
