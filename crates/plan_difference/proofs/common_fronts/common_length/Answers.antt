use Rattle.std.proofs.Common.{◌≡◌, take, arith, subst}
use Rattle.plan_difference.proofs.PassedLemmas.{take_next}
use Rattle.plan_difference.proofs.common_fronts.common_length.Goals as goal

pub loop-place-preserved : goal.loop-place-preserved
loop-place-preserved c =
    take_next c.loop-place.place c.args.text.now c.args.other.now c.loop-place.invariant
    (c.is_same_at.ensures c.if-not-is_same_at.false)

pub returns-clause-same : goal.returns-clause-same
returns-clause-same c =
    let last = c.loop-place-test.false in
    subst (λ n. take n c.args.text.now ≡ take n c.args.other.now)
    (let all : c.loop-place.place ≡ 32 = omega (arith, last, c.loop-place.auto.place-end) in all)
    c.loop-place.invariant
