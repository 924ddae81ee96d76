use Rattle.std.proofs.Common.{◌≡◌, ◌++◌, ◌∷◌, [], ◌∙◌, ap}
use Rattle.std.specs.Prelude.{codes, decimal}
use Rattle.csv.specs.Writing.{default_writer, row_text}
use Rattle.rulings.specs.Routes.{route_text}
use Rattle.call_files.specs.Rows.{granted_word}
use Rattle.call_files.proofs.WriterLemmas.{front_of_same}
use Rattle.call_files.proofs.writing.write_answered.Goals as goal

pub returns-clause-front : goal.returns-clause-front
returns-clause-front g c =
    let asked = c.args.asked.now in
    let number : c.as_bytes.result.now ≡ decimal c.args.number = c.as_bytes.ensures.value
    ∙ c.format.ensures.text in
    let call : c.as_bytes-2.result.now ≡ decimal asked.call = c.as_bytes-2.ensures.value
    ∙ c.format-2.ensures.text in
    let zone : c.as_bytes-3.result.now ≡ asked.zone = c.as_bytes-3.ensures.spells in
    let units : c.as_bytes-4.result.now ≡ decimal asked.units = c.as_bytes-4.ensures.value
    ∙ c.format-3.ensures.text ∙ ap decimal c.value.ensures in
    let granted : c.granted_word.result.now ≡ granted_word asked.granted =
    c.granted_word.ensures in
    let route : c.as_bytes-5.result.now ≡ route_text asked.route = c.as_bytes-5.ensures
    ∙ c.show_route.ensures in
    front_of_same c.row.result (g.W.Sink.contents c.args.writer.now)
    (g.W.Sink.contents c.row.new.writer) _ _
    (λ i. c.args.rows.now ++ row_text default_writer (number i ∷ codes "ANS" ∷ call i ∷ zone i
    ∷ [] ∷ units i ∷ granted i ∷ route i ∷ []))
    c.row.ensures.front
