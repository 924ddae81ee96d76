-- What was written has the same records.
use Rattle.std.proofs.Common.{◌≡◌, ◌++◌, ◌∷◌, [], ℕ, List, Some, refl, ap, ◌∙◌, map}
use Rattle.std.proofs.lemmas.List.Concat.{flat_map-cons}
use Rattle.csv.specs.Machine.{next_record}
use Rattle.csv.specs.Reading.{Reached, default_config, strip_bom}
use Rattle.csv.specs.Writing.{default_writer, row_text}
use Rattle.csv.specs.declared.parser.State.TheVariants as st
use Rattle.csv.proofs.RoundTrip.{read-write}
use Rattle.call_rows.specs.Rows.{RowParts}
use Rattle.call_rows.specs.declared.rows.CallEvent.{CallEvent}
use Rattle.call_rows.specs.declared.rows.CallEvent.TheVariants.{Admitted, Answered, Changed, Released}
use Rattle.call_files.specs.Calls.{HasRecords, calls_text, row_said, rows_said}
use Rattle.call_files.specs.Rows.{fields_from, fields_said, header}

-- a row in front of any text
row_back : (row : RowParts) (tail : List ℕ)
    → next_record default_config st.StartRecord [] [] (row_said row ++ tail)
    ≡ Some (fields_said row, st.StartRecord, tail)
row_back row tail = by row.event
  where
    by : (event : CallEvent) → next_record default_config st.StartRecord [] []
        (row_text default_writer (fields_from row.number event) ++ tail)
        ≡ Some (fields_from row.number event, st.StartRecord, tail)
    by (Admitted a) = read-write (fields_from row.number (Admitted a)) tail
    by (Answered a) = read-write (fields_from row.number (Answered a)) tail
    by (Changed call units) = read-write (fields_from row.number (Changed call units)) tail
    by (Released call) = read-write (fields_from row.number (Released call)) tail

rows_back : (rows : List RowParts) → Reached default_config st.StartRecord (rows_said rows)
    (map fields_said rows) st.StartRecord []
unfolding Reached
rows_back [] = (refl, refl)
rows_back (row ∷ rows) =
    let first = ap (λ text. next_record default_config st.StartRecord [] [] text)
    (flat_map-cons row_said row rows) ∙ row_back row (rows_said rows) in
    ((fields_said row, st.StartRecord, rows_said rows), first, refl, rows_back rows)

-- the header begins with no byte order mark
no_mark : (rows : List RowParts) → strip_bom (calls_text rows) ≡ calls_text rows
unfolding strip_bom
no_mark rows = refl

pub records_back : (rows : List RowParts) → HasRecords (calls_text rows)
    (header ∷ map fields_said rows)
unfolding Reached next_record
records_back rows =
    let first = ap (λ text. next_record default_config st.StartRecord [] [] text) (no_mark rows)
    ∙ read-write header (rows_said rows) in (
      st.StartRecord,
      [],
      ((header, st.StartRecord, rows_said rows), first, refl, rows_back rows),
      refl,
    )
