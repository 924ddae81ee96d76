use Rattle.std.proofs.Common.{◌≡◌, [], take, fold}
use Rattle.gk_commands.specs.Zones.{declared_by}
use Rattle.explanation.specs.Lists.{with_declared}
use Rattle.explanation.proofs.others.others_than.Given as goal

abbrev pub invariant-loop-command : goal.invariant-loop-command
invariant-loop-command l =
    l.list ≡ fold (λ list command. with_declared l.commands l.technology l.way l.picked l.kind list
    (declared_by command)) [] (take l.command-index l.commands)
