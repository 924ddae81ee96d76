use Rattle.std.proofs.Common.{◌≡◌, length, ap, arith}
use Rattle.std.specs.Prelude.{decimal}
use Rattle.gk_lines.proofs.DigitLemmas.{digits_written}
use Rattle.gk_lines.proofs.line_buffer.LineBuffer.digits.Goals as goal

pub returns-clause-digits : goal.returns-clause-digits
returns-clause-digits c =
    let bytes = c.self.inside.bytes in
    let len = c.self.inside.len in
    let number = c.args.number in
    let counted = c.digit_count-count.ensures.value in
    let same : length (decimal c.from.result) ≡ length (decimal number) = ap
    (λ n. length (decimal n)) c.from.ensures in
    let start : c.write_digits.result ≡ len = omega (
      arith,
      c.write_digits.ensures.start,
      counted,
      same,
    ) in
    rw (counted, ← c.self.view_is)
    (digits_written bytes c.write_digits.new.buf (decimal number) len
    (omega (arith, c.if-self-count.false, counted, c.self.invariant.0))
    (omega (arith, c.self.invariant.0, c.self.invariant.1))
    (rw (start, c.from.ensures, counted) at c.write_digits.ensures.written)
    (rw start at c.write_digits.ensures.before))
