use Rattle.std.proofs.Common.{◌≡◌, ◌++◌}
use Rattle.std.specs.List.{All}
use Rattle.gk_lines.specs.Streams.{AppendsUpTo}
use Rattle.call_files.specs.ReadBack.{IsRow}
use Rattle.call_files.specs.Calls.{rows_said}
use Rattle.call_files.proofs.writing.write_rows.Given as goal

abbrev pub invariant-loop-place : goal.invariant-loop-place
invariant-loop-place g l = record {
  written : AppendsUpTo (g.W.Sink.contents l.fn.writer) (g.W.Sink.contents l.writer)
      (l.fn.rows ++ rows_said (g.S.RowSource.rows_before l.source l.place)) l.rows;
  sound : All IsRow (g.S.RowSource.rows_before l.source l.place);
  noted : g.W.Sink.failures l.writer ≡ g.W.Sink.failures l.fn.writer;
}
