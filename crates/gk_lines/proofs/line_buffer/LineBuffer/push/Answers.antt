use Rattle.gk_lines.proofs.LineBufferLemmas.{extended-written}
use Rattle.gk_lines.proofs.line_buffer.LineBuffer.push.Goals as goal

pub returns : goal.returns
returns c =
    rw (c.write_at.ensures, c.min-count.ensures, ← c.self.view_is)
    (extended-written c.self.inside.bytes c.args.bytes.now c.self.inside.len c.self.invariant.0
    c.self.invariant.1)
