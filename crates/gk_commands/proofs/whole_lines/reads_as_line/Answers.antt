use Rattle.std.proofs.Common.{sym, ◌∙◌, arith}
use Rattle.std.proofs.lemmas.Bool.{not-true}
use Rattle.gk_commands.proofs.LinesLemmas.{line_first}
use Rattle.gk_commands.proofs.whole_lines.reads_as_line.Goals as goal

pub returns-then-bytes_before_feed-line : goal.returns-then-bytes_before_feed-line
returns-then-bytes_before_feed-line c = λ other rest.
    line_first c.args.line.now rest
    (omega (
      arith,
      c.bytes_before_feed.ensures.value,
      c.if-bytes_before_feed-line.true,
    ))
    (sym c.ends_with_return.ensures ∙ not-true c.ends_with_return.result other)
