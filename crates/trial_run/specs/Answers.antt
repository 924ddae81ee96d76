-- What a candidate configuration answers to the admissions of a record.
use Rattle.std.specs.Prelude.{ℕ, Bool, true, false, List, Option, Some, None, codes, bytes_eq, if◌then◌else◌}
use Rattle.gk_commands.specs.declared.commands.Command.{Command}
use Rattle.gk_commands.specs.Zones.{is_local}
use Rattle.registry.specs.Endpoint.{EndpointParts}
use Rattle.registry.specs.Registration.{kept_zones}
use Rattle.rulings.specs.declared.routes.Route.{Route}
use Rattle.rulings.specs.Routes.{route_text}
use Rattle.rulings.specs.Routing.{route_of}
use Rattle.call_rows.specs.declared.rows.AskedCall.{AskedCall}
use Rattle.call_rows.specs.declared.rows.NumberedAdmission.{NumberedAdmission}
use Rattle.trial_run.specs.declared.report_rows.CandidateAnswer.{CandidateAnswer}
use Rattle.trial_run.specs.declared.report_rows.CandidateAnswer.TheVariants.{Led, CallerNotRegistered}
use Rattle.trial_run.specs.declared.report_rows.ReportRow.{ReportRow}
use Rattle.trial_run.specs.declared.report_rows.Verdict.{Verdict}
use Rattle.trial_run.specs.declared.report_rows.Verdict.TheVariants.{Same, Changed}

-- ---- the answer
-- where the digits lead; without any it is the answer to a call, which is given where it was before
abbrev pub led_with : List Command → List EndpointParts → AskedCall → Option (List ℕ) → Route
led_with commands kept asked None = asked.route
led_with commands kept asked (Some digits) = route_of commands kept asked.zone digits

-- over endpoints whose zone is local under the commands
abbrev pub candidate_among : List Command → List EndpointParts → AskedCall → CandidateAnswer
candidate_among commands kept asked =
    if is_local commands asked.zone
    then Led (led_with commands kept asked asked.digits)
    else CallerNotRegistered

-- where the digits lead a caller of the recorded zone, by the commands and by those endpoints whose
-- zone is local there, and of the answer to a call what was recorded; if the recorded zone is not
-- local there, the caller, or who answers, is not registered
abbrev pub candidate_of : List Command → List EndpointParts → AskedCall → CandidateAnswer
candidate_of commands endpoints asked =
    candidate_among commands (kept_zones commands endpoints) asked

-- ---- the verdict
abbrev pub candidate_text : CandidateAnswer → List ℕ
candidate_text (Led route) = route_text route
candidate_text CallerNotRegistered = codes "callerNotRegistered"

-- both answers have the same text
abbrev pub verdict_of : Route → CandidateAnswer → Verdict
verdict_of recorded candidate =
    if bytes_eq (route_text recorded) (candidate_text candidate) then Same else Changed

abbrev pub is_same : Verdict → Bool
is_same Same = true
is_same Changed = false

-- ---- the row of a report
abbrev pub row_with : NumberedAdmission → CandidateAnswer → ReportRow
row_with admission candidate = record {
  number = admission.number;
  digits = admission.asked.digits;
  recorded = admission.asked.route;
  candidate = candidate;
  verdict = verdict_of admission.asked.route candidate;
}

abbrev pub row_among : List Command → List EndpointParts → NumberedAdmission → ReportRow
row_among commands kept admission =
    row_with admission (candidate_among commands kept admission.asked)
