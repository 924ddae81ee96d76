use Rattle.std.proofs.Common.{◌≡◌, [], take, fold}
use Rattle.explanation.specs.Lists.{limit_text, with_item}
use Rattle.explanation.proofs.lists.limits.Given as goal

abbrev pub invariant-loop-limit : goal.invariant-loop-limit
invariant-loop-limit l =
    l.list ≡ fold (λ list limit. with_item list (limit_text limit)) []
    (take l.limit-index l.limits)
