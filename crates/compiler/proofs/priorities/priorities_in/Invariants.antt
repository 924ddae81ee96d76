use Rattle.std.proofs.Common.{take}
use Rattle.compiler.specs.TablesIndex.{ArePriorities}
use Rattle.compiler.proofs.priorities.priorities_in.Given as goal

abbrev pub invariant-loop-command : goal.invariant-loop-command
invariant-loop-command l =
    ArePriorities l.zones.entries (take l.command-index l.commands) l.rows.entries
    l.priorities.entries
