use Rattle.std.proofs.Common.{◌≡◌, ◌≤◌}
use Rattle.gk_lines.specs.Streams.{KnownStep}
use Rattle.gk_lines.specs.LineReader.{work_left, left_of, AtEndIfEnded, CountsTurns}
use Rattle.gk_protocol.proofs.OwnedLemmas.{LinesUnderWay}
use Rattle.gk_protocol.proofs.owned_lines.take_lines.Given as goal

abbrev pub invariant-loop-taken : goal.invariant-loop-taken
invariant-loop-taken g l =
    let remaining = g.R.Source.remaining in
    record {
      ended : AtEndIfEnded l.lines (remaining l.reader);
      under_way : KnownStep (left_of l.fn.lines (remaining l.fn.reader))
          (left_of l.lines (remaining l.reader)) (LinesUnderWay l.fn.lines.ended l.lines.ended
          l._taken l.owned);
      turns : CountsTurns (g.R.Source.calls l.fn.reader) (g.R.Source.calls l.reader)
          l.fn.lines.turns l.lines.turns;
      noted : g.R.Source.failures l.reader ≡ g.R.Source.failures l.fn.reader;
      work : work_left l.lines ≤ work_left l.fn.lines;
    }
