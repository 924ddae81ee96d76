use Rattle.call_files.proofs.WriterLemmas.{of_success}
use Rattle.call_files.proofs.writing.write_calls.Goals as goal

pub returns-clause-reads_back : goal.returns-clause-reads_back
returns-clause-reads_back g c =
    of_success c.write_rows_of.result _ _ (λ back. back c.len-rows.ensures.in_order)
    c.write_rows_of.ensures.reads_back
