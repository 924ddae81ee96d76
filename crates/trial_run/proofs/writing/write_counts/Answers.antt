use Rattle.std.proofs.Common.{◌≡◌, ◌++◌, ◌∷◌, [], ◌∙◌}
use Rattle.std.specs.Prelude.{codes, decimal}
use Rattle.csv.specs.Writing.{default_writer, row_text}
use Rattle.call_files.proofs.WriterLemmas.{front_of_same}
use Rattle.trial_run.proofs.writing.write_counts.Goals as goal

pub returns-clause-front : goal.returns-clause-front
returns-clause-front g c =
    let counts = c.args.counts.now in
    let all : c.as_bytes.result.now ≡ decimal counts.rows = c.as_bytes.ensures.value
    ∙ c.format.ensures.text in
    let same : c.as_bytes-2.result.now ≡ decimal counts.same = c.as_bytes-2.ensures.value
    ∙ c.format-2.ensures.text in
    let changed : c.as_bytes-3.result.now ≡ decimal counts.changed = c.as_bytes-3.ensures.value
    ∙ c.format-3.ensures.text in
    front_of_same c.row.result (g.W.Sink.contents c.args.writer.now)
    (g.W.Sink.contents c.row.new.writer) _ _
    (λ i. c.args.rows.now ++ row_text default_writer (codes "count" ∷ all i ∷ same i ∷ changed i
    ∷ [] ∷ []))
    c.row.ensures.front
