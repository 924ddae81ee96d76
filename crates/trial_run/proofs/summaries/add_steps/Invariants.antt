use Rattle.std.proofs.Common.{◌*◌, take, map, length}
use Rattle.call_rows.specs.Moves.{move_in}
use Rattle.trial_run.specs.Levels.{AreNumbered, IsBelow, summary_of}
use Rattle.trial_run.specs.Touched.{touching}
use Rattle.trial_run.proofs.summaries.add_steps.Given as goal

abbrev pub invariant-loop-step : goal.invariant-loop-step
invariant-loop-step l =
    AreNumbered (length l.fn.summaries) (λ zone. summary_of (touching l.touched zone) (take
    l.step-index (map move_in l.steps))) l.summaries
    × IsBelow (l.step-index * 8589934590) l.summaries
