use Rattle.std.proofs.Common.{◌≡◌, take}
use Rattle.std.specs.Prelude.{flat_map}
use Rattle.gk_commands.specs.Printing.{further_words}
use Rattle.explanation.specs.Lists.{with_words}
use Rattle.explanation.proofs.text.Text.further_hopoffs.Given as goal

abbrev pub invariant-loop-name : goal.invariant-loop-name
invariant-loop-name l =
    l.self ≡ with_words l.fn.self (flat_map further_words (take l.name-index l.names))
