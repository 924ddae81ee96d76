use Rattle.std.proofs.lemmas.List.Filters.{dedup_is}
use Rattle.plan_difference.proofs.GatherLemmas.{heads_kept, heads_once}
use Rattle.plan_difference.proofs.gathering.put_heads_in_order.Goals as goal

pub returns-clause-kept : goal.returns-clause-kept
returns-clause-kept c =
    rw (dedup_is _ _ _ c.dedup.ensures.filtered)
    (heads_kept _ _ c.sort_unstable.ensures.permutation)

pub returns-clause-once : goal.returns-clause-once
returns-clause-once c =
    rw (dedup_is _ _ _ c.dedup.ensures.filtered)
    (heads_once _ c.sort_unstable.ensures.sorted)
