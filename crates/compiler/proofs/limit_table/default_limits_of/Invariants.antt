use Rattle.std.proofs.Common.{◌≡◌, take}
use Rattle.compiler.specs.TablesIndex.{default_limits_of}
use Rattle.compiler.proofs.limit_table.default_limits_of.Given as goal

abbrev pub invariant-loop-command : goal.invariant-loop-command
invariant-loop-command l = l.defaults ≡ default_limits_of (take l.command-index l.commands)
