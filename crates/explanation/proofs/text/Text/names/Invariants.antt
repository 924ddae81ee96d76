use Rattle.std.proofs.Common.{◌≡◌, take}
use Rattle.explanation.specs.Lists.{with_words}
use Rattle.explanation.proofs.text.Text.names.Given as goal

abbrev pub invariant-loop-name : goal.invariant-loop-name
invariant-loop-name l = l.self ≡ with_words l.fn.self (take l.name-index l.names)
