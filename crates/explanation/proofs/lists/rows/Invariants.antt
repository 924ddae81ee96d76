use Rattle.std.proofs.Common.{◌≡◌, [], take, fold}
use Rattle.explanation.specs.Lists.{names_row, with_command}
use Rattle.explanation.proofs.lists.rows.Given as goal

abbrev pub invariant-loop-command : goal.invariant-loop-command
invariant-loop-command l =
    l.list ≡ fold (with_command (names_row l.pattern l.zone)) [] (take l.command-index l.commands)
