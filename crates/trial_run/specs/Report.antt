-- The report of a trial.
use Rattle.std.specs.Prelude.{◌≡◌, ℕ, not, List, length, map, filter}
use Rattle.gk_commands.specs.declared.commands.Command.{Command}
use Rattle.gk_commands.specs.Zones.{zones_of}
use Rattle.registry.specs.Endpoint.{EndpointParts}
use Rattle.registry.specs.Registration.{kept_zones}
use Rattle.call_rows.specs.Rows.{RowParts, admissions_of}
use Rattle.trial_run.specs.declared.report_rows.ReportRow.{ReportRow}
use Rattle.trial_run.specs.declared.report_rows.ZonePeak.{ZonePeak}
use Rattle.trial_run.specs.declared.report_rows.Counts.{Counts}
use Rattle.trial_run.specs.Answers.{is_same, row_among}
use Rattle.trial_run.specs.Peaks.{peak_among}

-- a row for each admission that was routed, a peak for each zone of the candidate, and the counts
pub record ReportParts : Type 0 where
  pub rows : List ReportRow
  pub peaks : List ZonePeak
  pub counts : Counts

-- ---- the counts
abbrev pub same_among : List ReportRow → ℕ
same_among rows = length (filter (λ row. is_same row.verdict) rows)

abbrev pub changed_among : List ReportRow → ℕ
changed_among rows = length (filter (λ row. not (is_same row.verdict)) rows)

abbrev pub counts_of : List ReportRow → Counts
counts_of rows = record {
  rows = length rows;
  same = same_among rows;
  changed = changed_among rows;
}

-- ---- the rows and the peaks, over endpoints whose zone is local under the commands
abbrev pub rows_among : List Command → List EndpointParts → List RowParts → List ReportRow
rows_among commands kept rows = map (row_among commands kept) (admissions_of rows)

abbrev pub peaks_among : List Command → List EndpointParts → List RowParts → List ZonePeak
peaks_among commands kept rows =
    map (λ zone. record { zone = zone.0; units = peak_among commands kept rows zone.0 })
    (zones_of commands)

abbrev pub report_among : List Command → List EndpointParts → List RowParts → ReportParts
report_among commands kept rows = record {
  rows = rows_among commands kept rows;
  peaks = peaks_among commands kept rows;
  counts = counts_of (rows_among commands kept rows);
}

-- ---- the report of the rows and endpoints of a snapshot under the commands of a candidate
abbrev pub report_of : List Command → List EndpointParts → List RowParts → ReportParts
report_of commands endpoints rows =
    report_among commands (kept_zones commands endpoints) rows

abbrev pub IsReport : List Command → List RowParts → List EndpointParts → ReportParts → Type 0
IsReport commands rows endpoints report = report ≡ report_of commands endpoints rows
