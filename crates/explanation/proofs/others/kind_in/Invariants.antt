use Rattle.std.proofs.Common.{◌≡◌, None, take, fold}
use Rattle.std.specs.Option.{option_or}
use Rattle.gk_commands.specs.Zones.{declared_by}
use Rattle.explanation.specs.Lists.{kind_if}
use Rattle.explanation.proofs.others.kind_in.Given as goal

abbrev pub invariant-loop-command : goal.invariant-loop-command
invariant-loop-command l =
    l.found ≡ fold (λ found command. option_or found (kind_if l.name (declared_by command))) None
    (take l.command-index l.commands)
