use Rattle.std.proofs.Common.{[], sym, subst}
use Rattle.bandwidth.specs.CallList.{IsCallList, by_number}
use Rattle.bandwidth.proofs.OrderLemmas.{sorted_by_number}
use Rattle.bandwidth.proofs.call_list.CallList.new.Goals as goal

pub invariant_of-result : goal.invariant_of-result
invariant_of-result c =
    subst (λ es. IsCallList (by_number es)) (sym c.new.ensures.empty)
    (record { numbered = tt; sorted = sorted_by_number [] })
