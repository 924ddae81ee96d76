use Rattle.std.proofs.Common.{◌<◌, length, arith}
use Rattle.plan_difference.proofs.PassedLemmas.{kept_first, kept_next}
use Rattle.plan_difference.proofs.passing.keep.Goals as goal

pub loop-level-init : goal.loop-level-init
loop-level-init c = record {
  low = omega arith;
  below = kept_first c.args.common c.args.firsts.now;
}

pub loop-level-preserved : goal.loop-level-preserved
loop-level-preserved c =
    let low = c.loop-level.invariant.low in
    record {
      low = omega (arith, low);
      below = kept_next c.args.common c.args.firsts.now c.loop-level.firsts c.loop-level.level low
          (let within : c.loop-level.level < length c.loop-level.firsts =
          omega (arith, c.loop-level-test.true, c.copy_at.ensures.known) in within)
          c.loop-level.invariant.below c.copy_at.new.firsts c.copy_at.ensures.write;
    }

pub returns : goal.returns
returns c = λ level low.
    let last = c.loop-level-test.false in
    c.loop-level.invariant.below level
    (let within : level < c.loop-level.level = omega (arith, low, last) in within)
