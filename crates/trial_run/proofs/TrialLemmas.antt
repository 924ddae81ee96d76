-- The peaks of zones, by their names.
use Rattle.std.proofs.Common.{◌≡◌, ℕ, List, length, ap, sym, ◌∙◌}
use Rattle.std.specs.Map.{keys_of}
use Rattle.gk_commands.specs.declared.commands.Command.{Command}
use Rattle.gk_commands.specs.Accepted.{IsAccepted}
use Rattle.gk_commands.specs.Zones.{zones_of}
use Rattle.registry.specs.Endpoint.{EndpointParts}
use Rattle.call_rows.specs.Moves.{moves_of}
use Rattle.call_rows.specs.Rows.{RowParts, admissions_of}
use Rattle.trial_run.specs.declared.report_rows.Counts.{Counts}
use Rattle.trial_run.specs.declared.report_rows.ReportRow.{ReportRow}
use Rattle.trial_run.specs.declared.report_rows.ZonePeak.{ZonePeak}
use Rattle.trial_run.specs.HeldPeaks.{peaks_held}
use Rattle.trial_run.specs.Levels.{AreNumbered, ground, standing_from}
use Rattle.trial_run.specs.Peaks.{peak_among, touches_at}
use Rattle.trial_run.specs.Report.{ReportParts, peaks_among}
use Rattle.trial_run.specs.Touched.{touching}
use Rattle.trial_run.specs.Tried.{tried_touched}
use Rattle.trial_run.proofs.NumberLemmas.{touching_alike}
use Rattle.trial_run.proofs.PeakLemmas.{peak_alike, peak_is_top}
use Rattle.trial_run.proofs.ReportLemmas.{peaks_are}

-- the greatest level of the moves at a number is the peak of the zone of that number
pub zone_peaks : (commands : List Command) (kept : List EndpointParts) (rows : List RowParts)
    (names : List (List ℕ)) (tops : List ℕ) → IsAccepted commands
    → names ≡ keys_of (zones_of commands)
    → AreNumbered (length (zones_of commands))
    (λ zone. (standing_from (touching (tried_touched commands kept (admissions_of rows)) zone)
    ground (moves_of rows)).top) tops
    → peaks_held names tops ≡ peaks_among commands kept rows
zone_peaks commands kept rows names tops accepted named told =
    let admissions = admissions_of rows in
    let touched = tried_touched commands kept admissions in
    ap (λ ns. peaks_held ns tops) named
    ∙ peaks_are (zones_of commands) tops
    (λ zone. (standing_from (touching touched zone) ground (moves_of rows)).top)
    (peak_among commands kept rows) told
    (λ k z at. sym (peak_is_top (touching touched k) rows)
    ∙ peak_alike (touching touched k) (touches_at commands kept z.0 admissions)
    (touching_alike commands kept admissions k z accepted at) rows)

abbrev report_with : List ReportRow → List ZonePeak → Counts → ReportParts
report_with rows peaks counts = record { rows = rows; peaks = peaks; counts = counts }

-- a report is its parts
pub same_report : (rows others : List ReportRow) (peaks tops : List ZonePeak)
    (counts numbers : Counts) → rows ≡ others → peaks ≡ tops → counts ≡ numbers
    → report_with rows peaks counts ≡ report_with others tops numbers
same_report rows others peaks tops counts numbers a b c =
    ap (λ r. report_with r peaks counts) a ∙ ap (λ p. report_with others p counts) b
    ∙ ap (λ n. report_with others tops n) c
