-- How much bandwidth of the calls that touch a zone is in use at one time.
use Rattle.std.specs.Prelude.{ℕ, max, Bool, false, ◌&&◌, ◌||◌, List, [], ◌∷◌, Option, Some, None, slice_get, bytes_eq}
use Rattle.gk_commands.specs.declared.commands.Command.{Command}
use Rattle.registry.specs.Endpoint.{EndpointParts}
use Rattle.rulings.specs.Routing.{target_zone_of}
use Rattle.call_rows.specs.declared.rows.AskedCall.{AskedCall}
use Rattle.call_rows.specs.declared.rows.NumberedAdmission.{NumberedAdmission}
use Rattle.call_rows.specs.OpenCalls.{Open, opens_after, seen_after, use_of}
use Rattle.call_rows.specs.Rows.{RowParts, leads_somewhere, admissions_of}
use Rattle.trial_run.specs.declared.report_rows.CandidateAnswer.{CandidateAnswer}
use Rattle.trial_run.specs.declared.report_rows.CandidateAnswer.TheVariants.{Led, CallerNotRegistered}
use Rattle.trial_run.specs.Answers.{candidate_among}

-- ---- sums
-- the greatest use over all beginnings of the rows, from the calls that are open before them
abbrev pub peak_from : (ℕ → Bool) → List Open → ℕ → List RowParts → ℕ
peak_from touches opens seen [] = use_of touches opens
peak_from touches opens seen (r ∷ rows) =
    max (use_of touches opens)
    (peak_from touches (opens_after seen r.event opens) (seen_after seen r.event) rows)

abbrev pub peak_over : (ℕ → Bool) → List RowParts → ℕ
peak_over touches rows = peak_from touches [] 0 rows

-- ---- the zones that a call touches
-- the answer is a destination
abbrev pub is_destination : CandidateAnswer → Bool
is_destination (Led route) = leads_somewhere route
is_destination CallerNotRegistered = false

-- the zone of the destination; an answer is given in the zone of the endpoint itself
abbrev pub target_with : List Command → List EndpointParts → AskedCall → Option (List ℕ) → List ℕ
target_with commands kept asked None = asked.zone
target_with commands kept asked (Some digits) = target_zone_of commands kept asked.zone digits

-- the call of an admission touches the zone of the endpoint that asked and that of its destination,
-- if it has a destination under the commands
abbrev pub touches_among : List Command → List EndpointParts → List ℕ → AskedCall → Bool
touches_among commands kept zone asked =
    is_destination (candidate_among commands kept asked)
    && (bytes_eq zone asked.zone
    || bytes_eq zone (target_with commands kept asked asked.digits))

abbrev pub touches_if : (AskedCall → Bool) → Option NumberedAdmission → Bool
touches_if touches None = false
touches_if touches (Some admission) = touches admission.asked

-- the same of the admission at a place
abbrev pub touches_at : List Command → List EndpointParts → List ℕ → List NumberedAdmission → ℕ
    → Bool
touches_at commands kept zone admissions place =
    touches_if (touches_among commands kept zone) (slice_get admissions place)

-- the peak of a zone: the greatest sum of the units of the granted calls that are open at one time
-- and touch it under the commands, each of them once
abbrev pub peak_among : List Command → List EndpointParts → List RowParts → List ℕ → ℕ
peak_among commands kept rows zone =
    peak_over (touches_at commands kept zone (admissions_of rows)) rows
