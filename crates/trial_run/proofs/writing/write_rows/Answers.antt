use Rattle.std.proofs.Common.{◌≡◌, ◌++◌, ◌∙◌, suc, Some, drop, take, sym, subst}
use Rattle.std.specs.Prelude.{slice_get}
use Rattle.gk_lines.specs.Streams.{AppendsFront, AppendsUpTo}
use Rattle.call_files.proofs.ListLemmas.{said_in_all, said_more}
use Rattle.call_files.proofs.WriterLemmas.{at_fault, front_and_more, front_of_more, up_to_more}
use Rattle.trial_run.specs.ReportText.{row_said, rows_said}
use Rattle.trial_run.proofs.writing.write_rows.Goals as goal

pub loop-place-preserved : goal.loop-place-preserved
loop-place-preserved g c =
    let contents = g.W.Sink.contents in
    let before = c.args.rows.now in
    let all = c.args.report.now.rows in
    let place = c.loop-place.place in
    let item = c.in-Some.row in
    let found : slice_get all place ≡ Some item = sym c.row.ensures ∙ c.in-Some.is in
    let added = up_to_more (contents c.args.writer.now) (contents c.loop-place.writer)
    (contents c.write_row.new.writer) (before ++ rows_said (take place all)) c.loop-place.rows
    (row_said item) c.write_row.new.rows c.loop-place.invariant.written
    c.in_ok-write_row.ensures.added in
    record {
      written = subst
          (λ text. AppendsUpTo (contents c.args.writer.now) (contents c.write_row.new.writer) text
          c.write_row.new.rows) (said_more row_said before all place item found) added;
      noted = c.in_ok-write_row.ensures.noted ∙ c.loop-place.invariant.noted;
    }

pub returns-in_err-write_row-clause-front : goal.returns-in_err-write_row-clause-front
returns-in_err-write_row-clause-front g c =
    let contents = g.W.Sink.contents in
    let before = c.args.rows.now in
    let all = c.args.report.now.rows in
    let place = c.loop-place.place in
    let item = c.in-Some.row in
    let found : slice_get all place ≡ Some item = sym c.row.ensures ∙ c.in-Some.is in
    let so_far = before ++ rows_said (take place all) in
    let front = front_of_more (contents c.args.writer.now) (contents c.loop-place.writer)
    (contents c.write_row.new.writer) so_far c.loop-place.rows (row_said item)
    c.loop-place.invariant.written c.in_err-write_row.ensures.front in
    at_fault c.from_residual.result _
    (subst (AppendsFront (contents c.args.writer.now) (contents c.write_row.new.writer))
    (said_in_all row_said before all place item found)
    (front_and_more (contents c.args.writer.now) (contents c.write_row.new.writer)
    (so_far ++ row_said item) (rows_said (drop (suc place) all)) front))
