use Rattle.std.proofs.Common.{◌≡◌, ◌++◌, take}
use Rattle.gk_lines.specs.Streams.{AppendsUpTo}
use Rattle.trial_run.specs.ReportText.{rows_said}
use Rattle.trial_run.proofs.writing.write_rows.Given as goal

abbrev pub invariant-loop-place : goal.invariant-loop-place
invariant-loop-place g l = record {
  written : AppendsUpTo (g.W.Sink.contents l.fn.writer) (g.W.Sink.contents l.writer)
      (l.fn.rows ++ rows_said (take l.place l.report.rows)) l.rows;
  noted : g.W.Sink.failures l.writer ≡ g.W.Sink.failures l.fn.writer;
}
