use Rattle.std.proofs.Common.{◌≡◌, ◌++◌, take}
use Rattle.explanation.specs.Steps.{of_priority}
use Rattle.explanation.proofs.candidates.add_of_priority.Given as goal

abbrev pub invariant-loop-candidate : goal.invariant-loop-candidate
invariant-loop-candidate l =
    l.list.items ≡ l.fn.list.items ++ of_priority (take l.candidate-index l.candidates) l.priority
