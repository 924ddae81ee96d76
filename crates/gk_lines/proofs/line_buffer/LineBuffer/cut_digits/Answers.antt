use Rattle.std.proofs.Common.{lit<, lit≤, arith}
use Rattle.std.proofs.lemmas.Fmt.{length-decimal-le}
use Rattle.gk_lines.proofs.line_buffer.LineBuffer.cut_digits.Goals as goal

pub write_digits-start-requires : goal.write_digits-start-requires
write_digits-start-requires c =
    (length-decimal-le 10 c.from.result (lit< tt) (omega arith) (omega arith), lit≤ tt)
