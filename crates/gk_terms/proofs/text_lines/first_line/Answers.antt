use Rattle.std.proofs.Common.{arith}
use Rattle.gk_terms.proofs.LinesLemmas.{line_to_feed, line_to_end}
use Rattle.gk_terms.proofs.text_lines.first_line.Goals as goal

pub returns-then-end-text : goal.returns-then-end-text
returns-then-end-text c =
    rw (c.split_at.ensures.front, c.split_at.ensures.back, c.bytes_before_feed-end.ensures.value)
    (line_to_feed c.args.text.now c.requires)

pub returns-else-end-text : goal.returns-else-end-text
returns-else-end-text c =
    line_to_end c.args.text.now c.requires (omega (arith, c.bytes_before_feed-end.ensures.value))
