-- What a worker makes of one admission.
use Rattle.std.specs.Prelude.{◌≡◌, List}
use Rattle.gk_commands.specs.declared.commands.Command.{Command}
use Rattle.registry.specs.Endpoint.{EndpointParts}
use Rattle.call_rows.specs.declared.rows.NumberedAdmission.{NumberedAdmission}
use Rattle.trial_run.specs.declared.tried_rows.TriedRow.{TriedRow}
use Rattle.trial_run.specs.Answers.{row_among}
use Rattle.trial_run.specs.Numbers.{touched_among}

-- its row, and the zones that its call then touches
abbrev pub IsTried : List Command → List EndpointParts → NumberedAdmission → TriedRow → Type 0
IsTried commands kept admission tried =
    (tried.row ≡ row_among commands kept admission)
    × (tried.touched ≡ touched_among commands kept admission.asked)
