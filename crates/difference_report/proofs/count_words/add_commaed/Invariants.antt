use Rattle.std.proofs.Common.{◌≡◌, ◌++◌, drop}
use Rattle.difference_report.specs.CountWords.{commaed}
use Rattle.difference_report.proofs.count_words.add_commaed.Given as goal

abbrev pub invariant-loop-place : goal.invariant-loop-place
invariant-loop-place l =
    l.text.items ++ commaed (drop l.place l.digits) ≡ l.fn.text.items ++ commaed l.digits
