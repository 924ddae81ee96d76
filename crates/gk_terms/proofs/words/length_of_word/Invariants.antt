use Rattle.std.proofs.Common.{◌≡◌, ◌≤◌, length, drop, ◌+◌, ◌-◌}
use Rattle.std.specs.List.{position_or_len}
use Rattle.gk_terms.specs.Text.{is_blank}
use Rattle.gk_terms.proofs.words.length_of_word.Given as goal

-- no blank before that place
abbrev pub invariant-loop-at : goal.invariant-loop-at
invariant-loop-at l =
    (l.at ≤ length l.line)
    × (position_or_len is_blank l.line ≡
    l.at + position_or_len is_blank (drop l.at l.line))

abbrev pub decreases-loop-at : goal.decreases-loop-at
decreases-loop-at l = length l.line - l.at
