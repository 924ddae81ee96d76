use Rattle.std.proofs.Common.{◌≡◌, ◌+◌, ◌*◌, length, subst, arith}
use Rattle.call_rows.specs.Moves.{move_in}
use Rattle.trial_run.specs.Levels.{IsBelow}
use Rattle.trial_run.specs.Touched.{touching}
use Rattle.trial_run.proofs.SummaryLemmas.{one_more}
use Rattle.trial_run.proofs.summaries.add_steps.Goals as goal

pub loop-step-preserved : goal.loop-step-preserved
loop-step-preserved c =
    let place = c.loop-step.step-index in
    let grown : place * 8589934590 + 8589934590 ≡ (place + 1) * 8589934590 = omega arith in
    let new = c.add_step.new.summaries in (
      one_more move_in (λ zone. touching c.args.touched.now zone) c.args.steps.now place
          (length c.args.summaries.now) _ c.loop-step.summaries new c.loop-step.invariant.0
          c.loop-step-test.true c.add_step.ensures.each c.add_step.ensures.len,
      subst (λ most. IsBelow most new) grown
          (c.add_step.ensures.below (place * 8589934590) c.loop-step.invariant.1),
    )
