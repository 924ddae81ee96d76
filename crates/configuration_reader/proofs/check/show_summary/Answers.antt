use Rattle.std.proofs.Common.{arith}
use Rattle.gk_lines.proofs.LineBufferLemmas.{line_in_room}
use Rattle.configuration_reader.specs.Check.{summary_words}
use Rattle.configuration_reader.proofs.check.show_summary.Goals as goal

pub returns : goal.returns
returns c =
    rw (
      c.push_byte.ensures,
      c.word-3.ensures,
      c.word-2.ensures,
      c.number.ensures.number,
      c.word.ensures,
      c.begin_number.ensures.number,
    )
    (line_in_room (summary_words c.args.count c.args.passed)
    (omega (arith, c.begin_number.ensures.short, c.number.ensures.short)))
