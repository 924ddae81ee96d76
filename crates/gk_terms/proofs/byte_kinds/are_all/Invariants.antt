use Rattle.std.proofs.Common.{◌≡◌, ◌≤◌, true, length, take, ◌-◌}
use Rattle.std.specs.List.{list_all}
use Rattle.gk_terms.proofs.byte_kinds.are_all.Given as goal

-- all are of the kind before that place
abbrev pub invariant-loop-at : goal.invariant-loop-at
invariant-loop-at g l =
    (l.at ≤ length l.text) × (list_all g.K.ByteKind.is_of_kind (take l.at l.text) ≡ true)

abbrev pub decreases-loop-at : goal.decreases-loop-at
decreases-loop-at g l = length l.text - l.at
