use Rattle.std.proofs.Common.{◌≡◌, take}
use Rattle.gk_commands.specs.Zones.{zones_of}
use Rattle.compiler.proofs.zone_table.zones_in.Given as goal

abbrev pub invariant-loop-command : goal.invariant-loop-command
invariant-loop-command l = l.zones.entries ≡ zones_of (take l.command-index l.commands)
