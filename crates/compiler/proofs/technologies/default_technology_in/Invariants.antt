use Rattle.std.proofs.Common.{◌≡◌, take}
use Rattle.compiler.specs.Technology.{default_technology_of}
use Rattle.compiler.proofs.technologies.default_technology_in.Given as goal

abbrev pub invariant-loop-command : goal.invariant-loop-command
invariant-loop-command l = l.default ≡ default_technology_of (take l.command-index l.commands)
