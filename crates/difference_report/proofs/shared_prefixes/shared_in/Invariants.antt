use Rattle.std.proofs.Common.{◌≡◌, [], take, fold}
use Rattle.compiler.specs.Technology.{prefix_in}
use Rattle.difference_report.specs.Headings.{with_shared}
use Rattle.difference_report.proofs.shared_prefixes.shared_in.Given as goal

abbrev pub invariant-loop-command : goal.invariant-loop-command
invariant-loop-command l =
    l.prefixes.keys ≡ fold (λ list command. with_shared l.old.commands l.new.commands list
    (prefix_in command)) [] (take l.command-index l.commands)
