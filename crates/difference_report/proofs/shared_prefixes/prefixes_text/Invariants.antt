use Rattle.std.proofs.Common.{◌≡◌, [], take, fold}
use Rattle.difference_report.specs.Headings.{with_prefix}
use Rattle.difference_report.proofs.shared_prefixes.prefixes_text.Given as goal

abbrev pub invariant-loop-prefix : goal.invariant-loop-prefix
invariant-loop-prefix l =
    l.list.items ≡ fold with_prefix [] (take l.prefix-index l.prefixes)
