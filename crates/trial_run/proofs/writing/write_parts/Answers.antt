use Rattle.std.proofs.Common.{◌++◌, subst}
use Rattle.std.specs.Prelude.{OnErr, OnOk}
use Rattle.csv.specs.Writing.{default_writer, row_text}
use Rattle.gk_lines.specs.Streams.{AppendsFront, AppendsUpTo}
use Rattle.call_files.proofs.WriterLemmas.{at_fault, front_and_more, front_of_more, of_fault, of_success, up_to_more}
use Rattle.trial_run.specs.ReportText.{count_fields, header, peaks_said, rows_said}
use Rattle.trial_run.proofs.writing.write_parts.Goals as goal

pub returns-in_err-write_header-clause-front : goal.returns-in_err-write_header-clause-front
returns-in_err-write_header-clause-front g c =
    let contents = g.W.Sink.contents in
    let report = c.args.report.now in
    let first = row_text default_writer header in
    let rows = rows_said report.rows in
    let peaks = peaks_said report.peaks in
    let last = row_text default_writer (count_fields report.counts) in
    let a = contents c.args.writer.now in
    let b = contents c.write_header.new.writer in
    let front = subst (λ w. AppendsFront a b (w ++ first)) c.requires
    c.in_err-write_header.ensures.front in
    at_fault c.from_residual.result _
    (front_and_more a b (first ++ rows ++ peaks) last
    (front_and_more a b (first ++ rows) peaks (front_and_more a b first rows front)))

pub returns-in_err-write_rows-clause-front : goal.returns-in_err-write_rows-clause-front
returns-in_err-write_rows-clause-front g c =
    let contents = g.W.Sink.contents in
    let report = c.args.report.now in
    let first = row_text default_writer header in
    let rows = rows_said report.rows in
    let peaks = peaks_said report.peaks in
    let last = row_text default_writer (count_fields report.counts) in
    let a = contents c.args.writer.now in
    let b = contents c.write_header.new.writer in
    let begun = subst (λ w. AppendsUpTo a b (w ++ first) c.write_header.new.rows) c.requires
    c.in_ok-write_header.ensures.added in
    let d = contents c.write_rows.new.writer in
    at_fault c.from_residual-in_err-write_rows.result _
    (front_and_more a d (first ++ rows ++ peaks) last
    (front_and_more a d (first ++ rows) peaks
    (front_of_more a b d first c.write_header.new.rows rows begun
    c.in_err-write_rows.ensures.front)))

pub returns-in_err-write_peaks-clause-front : goal.returns-in_err-write_peaks-clause-front
returns-in_err-write_peaks-clause-front g c =
    let contents = g.W.Sink.contents in
    let report = c.args.report.now in
    let first = row_text default_writer header in
    let rows = rows_said report.rows in
    let peaks = peaks_said report.peaks in
    let last = row_text default_writer (count_fields report.counts) in
    let a = contents c.args.writer.now in
    let b = contents c.write_header.new.writer in
    let begun = subst (λ w. AppendsUpTo a b (w ++ first) c.write_header.new.rows) c.requires
    c.in_ok-write_header.ensures.added in
    let d = contents c.write_rows.new.writer in
    let listed = up_to_more a b d first c.write_header.new.rows rows c.write_rows.new.rows begun
    c.in_ok-write_rows.ensures.added in
    let e = contents c.write_peaks.new.writer in
    at_fault c.from_residual-in_err-write_peaks.result _
    (front_and_more a e (first ++ rows ++ peaks) last
    (front_of_more a d e (first ++ rows) c.write_rows.new.rows peaks listed
    c.in_err-write_peaks.ensures.front))

pub returns-clause-added : goal.returns-clause-added
returns-clause-added g c =
    let contents = g.W.Sink.contents in
    let report = c.args.report.now in
    let first = row_text default_writer header in
    let rows = rows_said report.rows in
    let peaks = peaks_said report.peaks in
    let last = row_text default_writer (count_fields c.counts.result) in
    let a = contents c.args.writer.now in
    let b = contents c.write_header.new.writer in
    let begun = subst (λ w. AppendsUpTo a b (w ++ first) c.write_header.new.rows) c.requires
    c.in_ok-write_header.ensures.added in
    let d = contents c.write_rows.new.writer in
    let listed = up_to_more a b d first c.write_header.new.rows rows c.write_rows.new.rows begun
    c.in_ok-write_rows.ensures.added in
    let e = contents c.write_peaks.new.writer in
    let told = up_to_more a d e (first ++ rows) c.write_rows.new.rows peaks c.write_peaks.new.rows
    listed c.in_ok-write_peaks.ensures.added in
    let f = contents c.write_counts.new.writer in
    subst
    (λ n. OnOk c.write_counts.result (AppendsUpTo a f
    (first ++ rows ++ peaks ++ row_text default_writer (count_fields n)) c.write_counts.new.rows))
    c.counts.ensures.value
    (of_success c.write_counts.result _ _
    (up_to_more a e f (first ++ rows ++ peaks) c.write_peaks.new.rows last c.write_counts.new.rows
    told) c.write_counts.ensures.added)

pub returns-clause-front : goal.returns-clause-front
returns-clause-front g c =
    let contents = g.W.Sink.contents in
    let report = c.args.report.now in
    let first = row_text default_writer header in
    let rows = rows_said report.rows in
    let peaks = peaks_said report.peaks in
    let last = row_text default_writer (count_fields c.counts.result) in
    let a = contents c.args.writer.now in
    let b = contents c.write_header.new.writer in
    let begun = subst (λ w. AppendsUpTo a b (w ++ first) c.write_header.new.rows) c.requires
    c.in_ok-write_header.ensures.added in
    let d = contents c.write_rows.new.writer in
    let listed = up_to_more a b d first c.write_header.new.rows rows c.write_rows.new.rows begun
    c.in_ok-write_rows.ensures.added in
    let e = contents c.write_peaks.new.writer in
    let told = up_to_more a d e (first ++ rows) c.write_rows.new.rows peaks c.write_peaks.new.rows
    listed c.in_ok-write_peaks.ensures.added in
    let f = contents c.write_counts.new.writer in
    subst
    (λ n. OnErr c.write_counts.result (AppendsFront a f
    (first ++ rows ++ peaks ++ row_text default_writer (count_fields n))))
    c.counts.ensures.value
    (of_fault c.write_counts.result _ _
    (front_of_more a e f (first ++ rows ++ peaks) c.write_peaks.new.rows last told)
    c.write_counts.ensures.front)
