use Rattle.std.proofs.Common.{◌≡◌, false, take}
use Rattle.std.specs.List.{list_any}
use Rattle.difference_report.specs.Lengths.{is_other_with}
use Rattle.difference_report.proofs.lengths.has_others_among.Given as goal

abbrev pub invariant-loop-front : goal.invariant-loop-front
invariant-loop-front l =
    list_any (λ front. is_other_with l.found.old l.found.new (l.set, l.digits) front l.count)
    (take l.front-index l.fronts) ≡ false
