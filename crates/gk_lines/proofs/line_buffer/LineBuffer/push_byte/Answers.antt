use Rattle.std.proofs.Common.{[], ◌∷◌, arith}
use Rattle.gk_lines.proofs.LineBufferLemmas.{byte_written, byte_left_out}
use Rattle.gk_lines.proofs.line_buffer.LineBuffer.push_byte.Goals as goal

pub returns-then-self-lt-ROOM : goal.returns-then-self-lt-ROOM
returns-then-self-lt-ROOM c =
    rw (← c.self.view_is)
    (byte_written c.self.inside.bytes c.self.inside.len c.args.byte
    (omega (arith, c.if-self-lt-ROOM.true)) c.self.invariant.1)

pub returns-else-self-lt-ROOM : goal.returns-else-self-lt-ROOM
returns-else-self-lt-ROOM c =
    rw (← c.self.view_is)
    (byte_left_out c.self.inside.bytes (c.args.byte ∷ []) c.self.inside.len c.self.invariant.0
    (omega (arith, c.if-self-lt-ROOM.false)) c.self.invariant.1)
