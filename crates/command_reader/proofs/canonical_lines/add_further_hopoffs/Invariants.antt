use Rattle.std.proofs.Common.{◌≡◌, take}
use Rattle.std.specs.Prelude.{flat_map}
use Rattle.gk_lines.specs.LineBuffer.{with_words}
use Rattle.gk_commands.specs.Printing.{further_words}
use Rattle.command_reader.proofs.canonical_lines.add_further_hopoffs.Given as goal

abbrev pub invariant-loop-name : goal.invariant-loop-name
invariant-loop-name l = l.line ≡ with_words l.fn.line (flat_map further_words
    (take l.name-index l.names))
