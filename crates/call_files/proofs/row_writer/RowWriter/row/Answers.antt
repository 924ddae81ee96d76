use Rattle.call_files.proofs.WriterLemmas.{at_fault, front_of_same, nothing_taken}
use Rattle.call_files.proofs.row_writer.RowWriter.row.Goals as goal

pub returns-in_err-add-clause-front : goal.returns-in_err-add-clause-front
returns-in_err-add-clause-front g c =
    at_fault c.from_residual.result _ (nothing_taken (g.W.Sink.contents c.args.writer.now) _)

pub returns-clause-front : goal.returns-clause-front
returns-clause-front g c =
    front_of_same c.send.result (g.W.Sink.contents c.args.writer.now)
    (g.W.Sink.contents c.send.new.writer) _ _ c.in_ok-add.ensures.added c.send.ensures.front
