use Rattle.std.proofs.Common.{[], ◌∷◌}
use Rattle.std.specs.Prelude.{decimal}
use Rattle.gk_lines.proofs.LineBufferLemmas.{extended_twice}
use Rattle.gk_lines.proofs.line_buffer.LineBuffer.number.Goals as goal

pub returns-clause-number : goal.returns-clause-number
returns-clause-number c =
    rw (c.digits.ensures.digits, c.push_byte.ensures) (extended_twice c.args.self.now (32 ∷ [])
    (decimal c.args.number))
