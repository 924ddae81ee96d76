use Rattle.std.proofs.Common.{◌≡◌, [], take, fold}
use Rattle.explanation.specs.Lists.{declares, with_command}
use Rattle.explanation.proofs.lists.declaring.Given as goal

abbrev pub invariant-loop-command : goal.invariant-loop-command
invariant-loop-command l =
    l.list ≡ fold (with_command (declares l.prefix)) [] (take l.command-index l.commands)
