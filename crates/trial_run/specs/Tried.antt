-- What a worker makes of a chunk of admissions.
use Rattle.std.specs.Prelude.{◌≡◌, List, map, vec_items}
use Rattle.std.specs.List.{flat_map}
use Rattle.gk_commands.specs.declared.commands.Command.{Command}
use Rattle.registry.specs.Endpoint.{EndpointParts}
use Rattle.call_rows.specs.declared.rows.NumberedAdmission.{NumberedAdmission}
use Rattle.trial_run.specs.declared.report_rows.ReportRow.{ReportRow}
use Rattle.trial_run.specs.declared.touched.Touched.{Touched}
use Rattle.trial_run.specs.declared.tried_chunks.TriedChunk.{TriedChunk}
use Rattle.trial_run.specs.declared.tried_chunks.TriedRows.{TriedRows}
use Rattle.trial_run.specs.Answers.{row_among}
use Rattle.trial_run.specs.Numbers.{touched_among}
use Rattle.trial_run.specs.Report.{same_among}

abbrev pub tried_rows : List Command → List EndpointParts → List NumberedAdmission → List ReportRow
tried_rows commands kept admissions = map (row_among commands kept) admissions

abbrev pub tried_touched : List Command → List EndpointParts → List NumberedAdmission
    → List Touched
tried_touched commands kept admissions =
    map (λ admission. touched_among commands kept admission.asked) admissions

-- the rows of these admissions, and the zones that they touch
abbrev pub AreTried : List Command → List EndpointParts → List NumberedAdmission → TriedChunk
    → Type 0
AreTried commands kept admissions chunk =
    (chunk.rows.items ≡ tried_rows commands kept admissions)
    × (chunk.touched.items ≡ tried_touched commands kept admissions)
    × (chunk.same ≡ same_among (tried_rows commands kept admissions))

-- the same of chunks that were put together
abbrev pub AreJoined : List Command → List EndpointParts → List NumberedAdmission → TriedRows
    → Type 0
AreJoined commands kept admissions tried =
    (flat_map vec_items tried.rows.items ≡ tried_rows commands kept admissions)
    × (tried.touched.items ≡ tried_touched commands kept admissions)
    × (tried.same ≡ same_among (tried_rows commands kept admissions))
