-- Answers of the candidate as a report keeps them, beside the recorded route: what each says.
use Rattle.rulings.specs.declared.routes.Route.{Route}
use Rattle.trial_run.specs.declared.report_rows.CandidateAnswer.{CandidateAnswer}
use Rattle.trial_run.specs.declared.report_rows.CandidateAnswer.TheVariants as answers
use Rattle.trial_run.specs.declared.report_rows.Verdict.{Verdict}
use Rattle.trial_run.specs.declared.report_rows.Verdict.TheVariants.{Same, Changed}
use Rattle.trial_run.specs.declared.held_answers.HeldAnswer.{HeldAnswer}
use Rattle.trial_run.specs.declared.held_answers.HeldAnswer.TheVariants as held

abbrev pub answer_held : Route → HeldAnswer → CandidateAnswer
answer_held recorded held.AsRecorded = answers.Led recorded
answer_held recorded (held.Led route) = answers.Led route
answer_held recorded held.CallerNotRegistered = answers.CallerNotRegistered

abbrev pub verdict_held : HeldAnswer → Verdict
verdict_held held.AsRecorded = Same
verdict_held (held.Led route) = Changed
verdict_held held.CallerNotRegistered = Changed
