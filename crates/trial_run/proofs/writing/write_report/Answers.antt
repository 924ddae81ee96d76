use Rattle.call_files.proofs.WriterLemmas.{front_of_rest, of_fault, of_success, whole_sent}
use Rattle.trial_run.specs.ReportText.{report_text}
use Rattle.trial_run.proofs.writing.write_report.Goals as goal

pub returns-clause-whole : goal.returns-clause-whole
returns-clause-whole g c =
    let contents = g.W.Sink.contents in
    of_success c.send.result _ _
    (whole_sent (contents c.args.writer.now) (contents c.write_parts.new.writer)
    (contents c.send.new.writer) (report_text c.args.report.now) c.write_parts.new.rows
    c.in_ok-write_parts.ensures.added)
    c.send.ensures.whole

pub returns-clause-front : goal.returns-clause-front
returns-clause-front g c =
    let contents = g.W.Sink.contents in
    of_fault c.send.result _ _
    (front_of_rest (contents c.args.writer.now) (contents c.write_parts.new.writer)
    (contents c.send.new.writer) (report_text c.args.report.now) c.write_parts.new.rows
    c.in_ok-write_parts.ensures.added)
    c.send.ensures.front
