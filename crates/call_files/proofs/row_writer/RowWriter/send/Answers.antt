use Rattle.call_files.proofs.WriterLemmas.{at_fault, nothing_taken}
use Rattle.call_files.proofs.row_writer.RowWriter.send.Goals as goal

pub returns-in_err-text-clause-front : goal.returns-in_err-text-clause-front
returns-in_err-text-clause-front g c =
    at_fault c.from_residual.result _
    (nothing_taken (g.W.Sink.contents c.args.writer.now) c.args.self.now)
