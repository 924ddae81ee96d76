use Rattle.std.proofs.Common.{◌≡◌, [], take, fold}
use Rattle.explanation.specs.Lists.{candidate_text, with_item}
use Rattle.explanation.proofs.lists.candidates.Given as goal

abbrev pub invariant-loop-candidate : goal.invariant-loop-candidate
invariant-loop-candidate l =
    l.list ≡ fold (λ list c. with_item list (candidate_text c)) []
    (take l.candidate-index l.candidates)
