-- Peaks, whose names and numbers are kept apart.
use Rattle.std.specs.Prelude.{ℕ, List, [], ◌∷◌}
use Rattle.trial_run.specs.declared.report_rows.ZonePeak.{ZonePeak}

abbrev pub peak_with : List ℕ → ℕ → ZonePeak
peak_with zone top = record { zone = zone; units = top }

abbrev pub peaks_held : List (List ℕ) → List ℕ → List ZonePeak
peaks_held [] tops = []
peaks_held (zone ∷ zones) [] = []
peaks_held (zone ∷ zones) (top ∷ tops) =
    peak_with zone top ∷ peaks_held zones tops
