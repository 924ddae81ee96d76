use Rattle.std.proofs.Common.{◌≡◌, [], subst}
use Rattle.std.specs.Prelude.{OnOk}
use Rattle.call_rows.specs.Pushing.{MayFollow}
use Rattle.decision_record.specs.History.{CoreParts}
use Rattle.decision_record.specs.Rows.{rows_of}
use Rattle.call_files.specs.Calls.{SaysRows, calls_text}
use Rattle.call_files.proofs.WriterLemmas.{nothing_taken, of_success}
use Rattle.runs.proofs.RecordedLemmas.{recorded_follow}
use Rattle.runs.proofs.recorded_rows.write_record.Goals as goal

pub returns-in_default-clause-front : goal.returns-in_default-clause-front
returns-in_default-clause-front g c =
    nothing_taken (g.W.Sink.contents c.args.writer.now) _

pub returns-clause-reads_back : goal.returns-clause-reads_back
returns-clause-reads_back g c =
    let core = c.args.core.now in
    let rows : c.in-Some.rows ≡ core = c.in-Some.ensures in
    let follow = recorded_follow core.opening core.entries c.record-record.ensures.opening
    c.record-record.ensures.legal in
    let back = subst
    (λ (r : CoreParts). OnOk c.write_rows_of.result (MayFollow [] (rows_of r.opening r.entries)
    → SaysRows (calls_text (rows_of r.opening r.entries)) (rows_of r.opening r.entries))) rows
    c.write_rows_of.ensures.reads_back in
    of_success c.write_rows_of.result _ _ (λ say good. say (follow good)) back
