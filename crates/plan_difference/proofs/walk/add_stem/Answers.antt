use Rattle.std.proofs.Common.{ℕ, ◌<◌, arith}
use Rattle.plan_difference.specs.Order.{IsOf}
use Rattle.plan_difference.specs.Walk.{Settles}
use Rattle.plan_difference.proofs.EntryLemmas.{grows_then}
use Rattle.plan_difference.proofs.OrderLemmas.{adds_then}
use Rattle.plan_difference.proofs.WalkLemmas.{below_more, settles_on}
use Rattle.plan_difference.proofs.walk.add_stem.Goals as goal

pub loop-stars-preserved : goal.loop-stars-preserved
loop-stars-preserved c =
    let old = c.args.old.now.commands in
    let new = c.args.new.now.commands in
    let heads = c.args.heads.now in
    let group = c.args.group.now in
    let stem = c.args.stem.now in
    let before = c.loop-stars.sets in
    let after = c.add_at.new.sets in
    record {
      grows = grows_then old new c.args.sets.now before after c.loop-stars.invariant.grows
          c.in_ok-add_at.ensures.grows;
      settles = below_more (λ k. Settles old new after heads group stem k) c.loop-stars.stars
          (λ k below. settles_on old new before after c.in_ok-add_at.ensures.grows heads group stem
          k (c.loop-stars.invariant.settles k below)) c.in_ok-add_at.ensures.settles;
      adds = adds_then (IsOf group heads) c.args.sets.now before after
          c.loop-stars.invariant.adds c.in_ok-add_at.ensures.adds;
    }

pub returns-clause-settles : goal.returns-clause-settles
returns-clause-settles c = λ (stars : ℕ) below.
    let low : stars < 33 = below in
    let last = c.loop-stars-test.false in
    c.loop-stars.invariant.settles stars
    (let within : stars < c.loop-stars.stars = omega (arith, low, last) in within)
