use Rattle.std.proofs.Common.{[], ◌∷◌}
use Rattle.gk_lines.proofs.LineBufferLemmas.{extended_twice}
use Rattle.gk_lines.proofs.line_buffer.LineBuffer.word.Goals as goal

pub returns : goal.returns
returns c = rw (c.push.ensures, c.push_byte.ensures) (extended_twice c.args.self.now (32 ∷ [])
    c.args.word.now)
