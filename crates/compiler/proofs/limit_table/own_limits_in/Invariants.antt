use Rattle.std.proofs.Common.{◌≡◌, take, length}
use Rattle.compiler.specs.TablesIndex.{AreOwnLimits}
use Rattle.compiler.proofs.limit_table.own_limits_in.Given as goal

abbrev pub invariant-loop-command : goal.invariant-loop-command
invariant-loop-command l = record {
  own : AreOwnLimits l.zones.entries (take l.command-index l.commands) l.limits.items;
  each : length l.limits.items ≡ length l.zones.entries;
}
