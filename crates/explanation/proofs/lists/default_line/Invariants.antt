use Rattle.std.proofs.Common.{◌≡◌, [], take, fold}
use Rattle.explanation.specs.Lists.{later_default}
use Rattle.explanation.proofs.lists.default_line.Given as goal

abbrev pub invariant-loop-command : goal.invariant-loop-command
invariant-loop-command l = l.line ≡ fold later_default [] (take l.command-index l.commands)
