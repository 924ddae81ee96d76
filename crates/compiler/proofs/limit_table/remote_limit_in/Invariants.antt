use Rattle.std.proofs.Common.{◌≡◌, take}
use Rattle.compiler.specs.Limit.{remote_limit_of}
use Rattle.compiler.proofs.limit_table.remote_limit_in.Given as goal

abbrev pub invariant-loop-command : goal.invariant-loop-command
invariant-loop-command l = l.limit ≡ remote_limit_of (take l.command-index l.commands)
