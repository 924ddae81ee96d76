use Rattle.std.proofs.Common.{[], ◌∷◌}
use Rattle.std.specs.Prelude.{decimal}
use Rattle.gk_lines.proofs.LineBufferLemmas.{extended_twice}
use Rattle.gk_lines.proofs.line_buffer.LineBuffer.octet.Goals as goal

pub returns-clause-octet : goal.returns-clause-octet
returns-clause-octet c =
    rw (c.digits.ensures.digits, c.push_byte.ensures, c.from.ensures)
    (extended_twice c.args.self.now (46 ∷ []) (decimal c.args.octet))
