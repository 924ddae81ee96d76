use Rattle.std.proofs.Common.{◌≡◌, ◌≤◌, ◌+◌}
use Rattle.gk_lines.specs.Streams.{KnownStep}
use Rattle.gk_lines.specs.LineReader.{work_left, left_of, AtEndIfEnded, CountsTurns}
use Rattle.gk_protocol.proofs.SessionUnderWay.{UnderWay}
use Rattle.gk_protocol.proofs.sessions.session_from.Given as goal

abbrev pub invariant-loop-reply : goal.invariant-loop-reply
invariant-loop-reply g l =
    let remaining = g.R.Source.remaining in
    let contents = g.W.Sink.contents in
    record {
      counted : l.replies + work_left l.lines ≤ work_left l.fn.lines;
      ended : AtEndIfEnded l.lines (remaining l.reader);
      under_way : KnownStep (left_of l.fn.lines (remaining l.fn.reader))
          (left_of l.lines (remaining l.reader)) (UnderWay g.A.Answerer.may_answer l.lines.ended
          l.fn.answerer l.answerer (contents l.fn.writer) (contents l.writer) l.replies);
      turns : CountsTurns (g.R.Source.calls l.fn.reader) (g.R.Source.calls l.reader)
          l.fn.lines.turns l.lines.turns;
      reader_noted : g.R.Source.failures l.reader ≡ g.R.Source.failures l.fn.reader;
      writer_noted : g.W.Sink.failures l.writer ≡ g.W.Sink.failures l.fn.writer;
    }

abbrev pub decreases-loop-reply : goal.decreases-loop-reply
decreases-loop-reply g l = work_left l.lines
