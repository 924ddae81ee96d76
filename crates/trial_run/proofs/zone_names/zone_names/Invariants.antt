use Rattle.std.proofs.Common.{◌≡◌, take}
use Rattle.std.specs.Map.{keys_of}
use Rattle.gk_commands.specs.Zones.{zones_of}
use Rattle.trial_run.proofs.zone_names.zone_names.Given as goal

abbrev pub invariant-loop-command : goal.invariant-loop-command
invariant-loop-command l = l.names.items ≡ keys_of (zones_of (take l.command-index l.commands))
