use Rattle.std.proofs.Common.{arith}
use Rattle.gk_lines.proofs.LineBufferLemmas.{ip_of_four, ip_short}
use Rattle.gk_lines.proofs.line_buffer.LineBuffer.ip.Goals as goal

pub returns-clause-ip : goal.returns-clause-ip
returns-clause-ip c =
    rw (
      c.octet-3.ensures.octet,
      c.octet-2.ensures.octet,
      c.octet.ensures.octet,
      c.number.ensures.number,
      c.from.ensures,
    )
    (ip_of_four c.args.self.now c.args.ip (omega arith))

pub returns-clause-short : goal.returns-clause-short
returns-clause-short c =
    ip_short c.args.ip (omega arith) (rw (c.from.ensures) at c.number.ensures.short)
    c.octet.ensures.short c.octet-2.ensures.short c.octet-3.ensures.short
