use Rattle.std.proofs.Common.{take}
use Rattle.compiler.specs.TablesIndex.{AreTechnologies}
use Rattle.compiler.proofs.technologies.technologies_in.Given as goal

abbrev pub invariant-loop-command : goal.invariant-loop-command
invariant-loop-command l =
    AreTechnologies l.zones.entries (take l.command-index l.commands) l.technologies
