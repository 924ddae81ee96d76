use Rattle.std.proofs.Common.{◌≡◌, ◌++◌, ◌∷◌, [], ◌∙◌}
use Rattle.std.specs.Prelude.{codes, decimal}
use Rattle.csv.specs.Writing.{default_writer, row_text}
use Rattle.call_files.proofs.WriterLemmas.{front_of_same}
use Rattle.trial_run.proofs.writing.write_peak.Goals as goal

pub returns-clause-front : goal.returns-clause-front
returns-clause-front g c =
    let peak = c.args.peak.now in
    let zone : c.as_bytes.result.now ≡ peak.zone = c.as_bytes.ensures.spells in
    let units : c.as_bytes-2.result.now ≡ decimal peak.units = c.as_bytes-2.ensures.value
    ∙ c.format.ensures.text in
    front_of_same c.row.result (g.W.Sink.contents c.args.writer.now)
    (g.W.Sink.contents c.row.new.writer) _ _
    (λ i. c.args.rows.now ++ row_text default_writer (codes "peak" ∷ zone i ∷ units i ∷ [] ∷ []
    ∷ []))
    c.row.ensures.front
