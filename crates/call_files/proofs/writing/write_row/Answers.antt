use Rattle.std.proofs.Common.{◌≡◌, ◌++◌, ◌∙◌, sym}
use Rattle.csv.specs.Writing.{default_writer, row_text}
use Rattle.call_rows.specs.declared.rows.CallEvent.TheVariants as events
use Rattle.call_files.specs.Rows.{fields_from}
use Rattle.call_files.proofs.WriterLemmas.{front_of_same}
use Rattle.call_files.proofs.writing.write_row.Goals as goal

pub returns-in-Admitted-clause-front : goal.returns-in-Admitted-clause-front
returns-in-Admitted-clause-front g c =
    let event : events.Admitted c.in-Admitted.asked ≡ c.args.row.now.event = sym c.in-Admitted.is ∙ c.event.ensures in
    front_of_same c.write_admitted.result (g.W.Sink.contents c.args.writer.now)
    (g.W.Sink.contents c.write_admitted.new.writer) _ _
    (λ i. c.args.rows.now ++ row_text default_writer
    (fields_from (c.number-number.ensures.value i) (event i)))
    c.write_admitted.ensures.front

pub returns-in-Answered-clause-front : goal.returns-in-Answered-clause-front
returns-in-Answered-clause-front g c =
    let event : events.Answered c.in-Answered.asked ≡ c.args.row.now.event = sym c.in-Answered.is ∙ c.event.ensures in
    front_of_same c.write_answered.result (g.W.Sink.contents c.args.writer.now)
    (g.W.Sink.contents c.write_answered.new.writer) _ _
    (λ i. c.args.rows.now ++ row_text default_writer
    (fields_from (c.number-number.ensures.value i) (event i)))
    c.write_answered.ensures.front

pub returns-in-Changed-clause-front : goal.returns-in-Changed-clause-front
returns-in-Changed-clause-front g c =
    let event : events.Changed c.in-Changed.call c.in-Changed.units ≡ c.args.row.now.event = sym c.in-Changed.is ∙ c.event.ensures in
    front_of_same c.write_changed.result (g.W.Sink.contents c.args.writer.now)
    (g.W.Sink.contents c.write_changed.new.writer) _ _
    (λ i. c.args.rows.now ++ row_text default_writer
    (fields_from (c.number-number.ensures.value i) (event i)))
    c.write_changed.ensures.front

pub returns-in-Released-clause-front : goal.returns-in-Released-clause-front
returns-in-Released-clause-front g c =
    let event : events.Released c.in-Released.call ≡ c.args.row.now.event = sym c.in-Released.is ∙ c.event.ensures in
    front_of_same c.write_released.result (g.W.Sink.contents c.args.writer.now)
    (g.W.Sink.contents c.write_released.new.writer) _ _
    (λ i. c.args.rows.now ++ row_text default_writer
    (fields_from (c.number-number.ensures.value i) (event i)))
    c.write_released.ensures.front
