use Rattle.std.proofs.Common.{◌≡◌, [], take, fold}
use Rattle.explanation.specs.Lists.{with_item}
use Rattle.explanation.proofs.lists.names.Given as goal

abbrev pub invariant-loop-name : goal.invariant-loop-name
invariant-loop-name l = l.list ≡ fold with_item [] (take l.name-index l.names)
