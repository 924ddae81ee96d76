use Rattle.std.proofs.Common.{◌≡◌, ◌++◌, replicate}
use Rattle.difference_report.proofs.texts.add_repeated.Given as goal

abbrev pub invariant-loop-i : goal.invariant-loop-i
invariant-loop-i l = l.text.items ≡ l.fn.text.items ++ replicate l._i l.byte
