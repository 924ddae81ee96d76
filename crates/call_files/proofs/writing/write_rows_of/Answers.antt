use Rattle.std.proofs.Common.{◌++◌, subst}
use Rattle.csv.specs.Writing.{default_writer, row_text}
use Rattle.gk_lines.specs.Streams.{AppendsFront, AppendsUpTo}
use Rattle.call_files.specs.Calls.{calls_text, rows_said}
use Rattle.call_files.specs.Rows.{header}
use Rattle.call_files.proofs.read_back.Rows.{calls_back}
use Rattle.call_files.proofs.WriterLemmas.{at_fault, front_and_more, front_of_more, front_of_rest, of_fault, of_success, up_to_more, whole_sent}
use Rattle.call_files.proofs.writing.write_rows_of.Goals as goal

pub returns-in_err-write_header-clause-front : goal.returns-in_err-write_header-clause-front
returns-in_err-write_header-clause-front g c =
    let contents = g.W.Sink.contents in
    let first = row_text default_writer header in
    let front = subst
    (λ w. AppendsFront (contents c.args.writer.now) (contents c.write_header.new.writer)
    (w ++ first))
    c.new-rows.ensures c.in_err-write_header.ensures.front in
    at_fault c.from_residual.result _
    (front_and_more (contents c.args.writer.now) (contents c.write_header.new.writer) first
    (rows_said (g.S.RowSource.rows c.args.source.now)) front)

pub returns-in_err-write_rows-clause-front : goal.returns-in_err-write_rows-clause-front
returns-in_err-write_rows-clause-front g c =
    let contents = g.W.Sink.contents in
    let first = row_text default_writer header in
    let added = subst
    (λ w. AppendsUpTo (contents c.args.writer.now) (contents c.write_header.new.writer) (w ++ first)
    c.write_header.new.rows) c.new-rows.ensures c.in_ok-write_header.ensures.added in
    at_fault c.from_residual-in_err-write_rows.result _
    (front_of_more (contents c.args.writer.now) (contents c.write_header.new.writer)
    (contents c.write_rows.new.writer) first c.write_header.new.rows
    (rows_said (g.S.RowSource.rows c.args.source.now)) added c.in_err-write_rows.ensures.front)

pub returns-clause-whole : goal.returns-clause-whole
returns-clause-whole g c =
    let contents = g.W.Sink.contents in
    let first = row_text default_writer header in
    let added = subst
    (λ w. AppendsUpTo (contents c.args.writer.now) (contents c.write_header.new.writer) (w ++ first)
    c.write_header.new.rows) c.new-rows.ensures c.in_ok-write_header.ensures.added in
    let both = up_to_more (contents c.args.writer.now) (contents c.write_header.new.writer)
    (contents c.write_rows.new.writer) first c.write_header.new.rows
    (rows_said (g.S.RowSource.rows c.args.source.now)) c.write_rows.new.rows added
    c.in_ok-write_rows.ensures.added in
    of_success c.send.result _ _
    (whole_sent (contents c.args.writer.now) (contents c.write_rows.new.writer)
    (contents c.send.new.writer) (calls_text (g.S.RowSource.rows c.args.source.now))
    c.write_rows.new.rows both)
    c.send.ensures.whole

pub returns-clause-front : goal.returns-clause-front
returns-clause-front g c =
    let contents = g.W.Sink.contents in
    let first = row_text default_writer header in
    let added = subst
    (λ w. AppendsUpTo (contents c.args.writer.now) (contents c.write_header.new.writer) (w ++ first)
    c.write_header.new.rows) c.new-rows.ensures c.in_ok-write_header.ensures.added in
    let both = up_to_more (contents c.args.writer.now) (contents c.write_header.new.writer)
    (contents c.write_rows.new.writer) first c.write_header.new.rows
    (rows_said (g.S.RowSource.rows c.args.source.now)) c.write_rows.new.rows added
    c.in_ok-write_rows.ensures.added in
    of_fault c.send.result _ _
    (front_of_rest (contents c.args.writer.now) (contents c.write_rows.new.writer)
    (contents c.send.new.writer) (calls_text (g.S.RowSource.rows c.args.source.now))
    c.write_rows.new.rows both)
    c.send.ensures.front

pub returns-clause-reads_back : goal.returns-clause-reads_back
returns-clause-reads_back g c =
    of_success c.send.result _ _
    (λ _. calls_back (g.S.RowSource.rows c.args.source.now) c.in_ok-write_rows.ensures.sound)
    c.send.ensures.whole
