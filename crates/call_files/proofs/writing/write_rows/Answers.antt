use Rattle.std.proofs.Common.{◌≡◌, ◌+◌, ◌++◌, [], ◌∷◌, ◌∙◌, sym, ap, append-nil, subst}
use Rattle.std.specs.List.{All, cons_option}
use Rattle.gk_lines.specs.Streams.{AppendsFront, AppendsUpTo}
use Rattle.call_files.specs.Calls.{row_said, rows_said}
use Rattle.call_files.specs.ReadBack.{IsRow}
use Rattle.call_files.proofs.ListLemmas.{all_next, said_in, said_next}
use Rattle.call_files.proofs.WriterLemmas.{at_fault, front_and_more, front_of_more, up_to_more}
use Rattle.call_files.proofs.writing.write_rows.Goals as goal
use Rattle.call_files.proofs.writing.write_rows.Goals.{in-Some+in_ok-write_row, in_default}

pub loop-place-preserved : goal.loop-place-preserved
loop-place-preserved g c =
    let contents = g.W.Sink.contents in
    let old = contents c.args.writer.now in
    let before = c.args.rows.now in
    let rows = g.S.RowSource.rows_before c.args.source.now in
    let front = rows c.loop-place.place in
    let next = rows (c.loop-place.place + 1) in
    elim c.match-row_at.branch [
      | in-Some+in_ok-write_row w ↦
          let row = w.in-Some.row in
          let more : next ≡ front ++ row ∷ [] = w.in-Some.ensures.next in
          let added = up_to_more old (contents c.loop-place.writer)
          (contents w.write_row.new.writer) (before ++ rows_said front) c.loop-place.rows
          (row_said row) w.write_row.new.rows c.loop-place.invariant.written
          w.in_ok-write_row.ensures.added in
          rw (w.rows-is, w.writer-is) (record {
            written = subst
                (λ text. AppendsUpTo old (contents w.write_row.new.writer) text
                w.write_row.new.rows) (said_next front next row more row_said before) added;
            sound = all_next front next row more IsRow c.loop-place.invariant.sound
                w.row_is_sound.ensures;
            noted = w.in_ok-write_row.ensures.noted ∙ c.loop-place.invariant.noted;
          })
      | in_default w ↦
          let same : front ≡ next = sym (c.row_at.ensures.next
          ∙ ap (λ o. front ++ cons_option o []) w.in_default.is ∙ append-nil front) in
          rw (w.rows-is, w.writer-is) (record {
            written = subst
                (λ r. AppendsUpTo old (contents c.loop-place.writer) (before ++ rows_said r)
                c.loop-place.rows) same c.loop-place.invariant.written;
            sound = subst (All IsRow) same c.loop-place.invariant.sound;
            noted = c.loop-place.invariant.noted;
          })
    ]

pub returns-in_err-write_row-clause-front : goal.returns-in_err-write_row-clause-front
returns-in_err-write_row-clause-front g c =
    let contents = g.W.Sink.contents in
    let old = contents c.args.writer.now in
    let new = contents c.write_row.new.writer in
    let before = c.args.rows.now in
    let rows = g.S.RowSource.rows_before c.args.source.now in
    let front = rows c.loop-place.place in
    let next = rows (c.loop-place.place + 1) in
    let row = c.in-Some.row in
    let more : next ≡ front ++ row ∷ [] = c.in-Some.ensures.next in
    let left = c.in-Some.ensures.rest in
    let taken = front_of_more old (contents c.loop-place.writer) new (before ++ rows_said front)
    c.loop-place.rows (row_said row) c.loop-place.invariant.written
    c.in_err-write_row.ensures.front in
    at_fault c.from_residual.result _
    (subst (AppendsFront old new)
    (said_in front next row more row_said before _ left.0 left.1)
    (front_and_more old new ((before ++ rows_said front) ++ row_said row) (rows_said left.0) taken))
