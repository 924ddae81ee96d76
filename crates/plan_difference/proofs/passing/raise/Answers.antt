use Rattle.std.proofs.Common.{◌<◌, ◌≤◌, length, get_or, arith}
use Rattle.plan_difference.proofs.PassedLemmas.{raised_first, raised_next}
use Rattle.plan_difference.proofs.passing.raise.Goals as goal

pub loop-level-init : goal.loop-level-init
loop-level-init c =
    raised_first c.args.least c.args.place c.args.other c.args.firsts.now

pub raise_at-requires-clause-within : goal.raise_at-requires-clause-within
raise_at-requires-clause-within c =
    let level = c.loop-level.level in
    let before = c.args.firsts.now in
    let low = c.loop-level-test.true in
    let same = c.loop-level.invariant.rest level (omega arith) in
    let up : get_or before level 0 ≤ get_or before 32 0 =
    c.requires.rising level 32 (let most : level ≤ 32 = omega (arith, low) in most) (omega arith) in
    omega (arith, same, up, c.requires.first)

pub loop-level-preserved : goal.loop-level-preserved
loop-level-preserved c =
    raised_next c.args.least c.args.place c.args.other c.args.firsts.now c.loop-level.firsts
    c.loop-level.level c.loop-level.auto.level
    (let within : c.loop-level.level < length c.loop-level.firsts =
    omega (arith, c.loop-level-test.true, c.raise_at.ensures.known) in within)
    c.loop-level.invariant c.raise_at.new.firsts c.raise_at.ensures.write

pub returns : goal.returns
returns c = λ level low.
    let last = c.loop-level-test.false in
    c.loop-level.invariant.below level
    (let within : level < c.loop-level.level = omega (arith, low, last) in within)
