use Rattle.std.proofs.Common.{◌≡◌, ◌<◌, ◌≤◌, IsTrue, false}
use Rattle.gk_lines.specs.LineReader.{work_left, left_of, AtEndIfEnded, CountsTurns, GaveBytes}
use Rattle.gk_lines.proofs.LinesRead.{LineSoFar}
use Rattle.gk_lines.proofs.line_reader.LineReader.next_line.Given as goal

abbrev pub invariant-loop-more : goal.invariant-loop-more
invariant-loop-more g l = record {
  work : work_left l.self ≤ work_left l.fn.self;
  progress : IsTrue l.more → work_left l.self < work_left l.fn.self;
  ended : AtEndIfEnded l.self (g.R.Source.remaining l.reader);
  unended_line : IsTrue l.more → l.fn.self.ended ≡ false;
  stays_ended : l.self.ended ≡ false → l.fn.self.ended ≡ false;
  line : LineSoFar (left_of l.fn.self (g.R.Source.remaining l.fn.reader))
      (left_of l.self (g.R.Source.remaining l.reader)) l.line l.more;
  turns : CountsTurns (g.R.Source.calls l.fn.reader) (g.R.Source.calls l.reader) l.fn.self.turns
      l.self.turns;
  gave : GaveBytes (g.R.Source.remaining l.fn.reader) (g.R.Source.remaining l.reader)
      l.fn.self.turns l.self.turns;
  noted : g.R.Source.failures l.reader ≡ g.R.Source.failures l.fn.reader;
}

abbrev pub decreases-loop-more : goal.decreases-loop-more
decreases-loop-more g l = work_left l.self
