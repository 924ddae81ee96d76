use Rattle.std.proofs.Common.{◌≡◌, ◌++◌, ◌∷◌, [], ◌∙◌}
use Rattle.std.specs.Prelude.{decimal}
use Rattle.csv.specs.Writing.{default_writer, row_text}
use Rattle.rulings.specs.Routes.{route_text}
use Rattle.call_files.proofs.WriterLemmas.{front_of_same}
use Rattle.trial_run.specs.Answers.{candidate_text}
use Rattle.trial_run.specs.ReportText.{digits_text, verdict_word}
use Rattle.trial_run.proofs.writing.write_row.Goals as goal

pub returns-clause-front : goal.returns-clause-front
returns-clause-front g c =
    let row = c.args.row.now in
    let number : c.as_bytes.result.now ≡ decimal row.number = c.as_bytes.ensures.value
    ∙ c.format.ensures.text in
    let digits : c.digits_text.result.now ≡ digits_text row.digits = c.digits_text.ensures in
    let recorded : c.as_bytes-2.result.now ≡ route_text row.recorded = c.as_bytes-2.ensures
    ∙ c.show_route.ensures in
    let candidate : c.as_bytes-3.result.now ≡ candidate_text row.candidate =
    c.as_bytes-3.ensures ∙ c.show_candidate.ensures in
    let verdict : c.verdict_word.result.now ≡ verdict_word row.verdict = c.verdict_word.ensures in
    front_of_same c.row.result (g.W.Sink.contents c.args.writer.now)
    (g.W.Sink.contents c.row.new.writer) _ _
    (λ i. c.args.rows.now ++ row_text default_writer (number i ∷ digits i ∷ recorded i
    ∷ candidate i ∷ verdict i ∷ []))
    c.row.ensures.front
