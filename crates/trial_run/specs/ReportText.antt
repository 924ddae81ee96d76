-- The text of a report: rows of comma-separated fields, as `csv` writes them by default.
use Rattle.std.specs.Prelude.{ℕ, ◌++◌, List, [], ◌∷◌, codes, decimal, flat_map, Option, Some, None}
use Rattle.csv.specs.Writing.{default_writer, row_text}
use Rattle.rulings.specs.Routes.{route_text}
use Rattle.trial_run.specs.declared.report_rows.Counts.{Counts}
use Rattle.trial_run.specs.declared.report_rows.ReportRow.{ReportRow}
use Rattle.trial_run.specs.declared.report_rows.Verdict.{Verdict}
use Rattle.trial_run.specs.declared.report_rows.Verdict.TheVariants.{Same, Changed}
use Rattle.trial_run.specs.declared.report_rows.ZonePeak.{ZonePeak}
use Rattle.trial_run.specs.Answers.{candidate_text}
use Rattle.trial_run.specs.Report.{ReportParts}

abbrev pub header : List (List ℕ)
header =
    codes "number" ∷ codes "digits" ∷ codes "recorded" ∷ codes "candidate" ∷ codes "verdict" ∷ []

-- ---- a row
-- what was dialled; nothing if nothing was
abbrev pub digits_text : Option (List ℕ) → List ℕ
digits_text None = []
digits_text (Some digits) = digits

abbrev pub verdict_word : Verdict → List ℕ
verdict_word Same = codes "same"
verdict_word Changed = codes "changed"

abbrev pub row_fields : ReportRow → List (List ℕ)
row_fields row =
    decimal row.number ∷ digits_text row.digits ∷ route_text row.recorded
    ∷ candidate_text row.candidate ∷ verdict_word row.verdict ∷ []

abbrev pub row_said : ReportRow → List ℕ
row_said row = row_text default_writer (row_fields row)

abbrev pub rows_said : List ReportRow → List ℕ
rows_said rows = flat_map row_said rows

-- ---- a peak, and the counts
abbrev pub peak_fields : ZonePeak → List (List ℕ)
peak_fields peak = codes "peak" ∷ peak.zone ∷ decimal peak.units ∷ [] ∷ [] ∷ []

abbrev pub peak_said : ZonePeak → List ℕ
peak_said peak = row_text default_writer (peak_fields peak)

abbrev pub peaks_said : List ZonePeak → List ℕ
peaks_said peaks = flat_map peak_said peaks

abbrev pub count_fields : Counts → List (List ℕ)
count_fields counts =
    codes "count" ∷ decimal counts.rows ∷ decimal counts.same ∷ decimal counts.changed ∷ [] ∷ []

-- ---- the text: the header, a row for each admission, one for each peak, and the counts
abbrev pub report_text : ReportParts → List ℕ
report_text report =
    row_text default_writer header ++ rows_said report.rows ++ peaks_said report.peaks
    ++ row_text default_writer (count_fields report.counts)
