use Rattle.std.proofs.Common.{◌≡◌, take}
use Rattle.gk_lines.specs.LineBuffer.{with_words}
use Rattle.gk_lines.proofs.line_buffer.LineBuffer.names.Given as goal

abbrev pub invariant-loop-name : goal.invariant-loop-name
invariant-loop-name l = l.self ≡ with_words l.fn.self (take l.name-index l.names)
