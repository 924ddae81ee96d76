use Rattle.gk_lines.proofs.LineBufferLemmas.{address_whole, address_short}
use Rattle.gk_lines.proofs.line_buffer.LineBuffer.address.Goals as goal

pub returns-clause-address : goal.returns-clause-address
returns-clause-address c =
    rw (
      c.digits.ensures.digits,
      c.push_byte.ensures,
      c.ip-2.ensures.ip,
      c.ip.ensures,
      c.from.ensures,
      c.port.ensures.value,
    )
    (address_whole c.args.self.now c.args.address.now)

pub returns-clause-short : goal.returns-clause-short
returns-clause-short c =
    address_short c.args.address.now (rw (c.ip.ensures) at c.ip-2.ensures.short)
    (rw (c.from.ensures, c.port.ensures.value) at c.digits.ensures.short)
