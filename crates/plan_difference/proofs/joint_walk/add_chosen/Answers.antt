use Rattle.std.proofs.Common.{◌≡◌, ℕ, ◌<◌, [], slice_get, Some, true, arith}
use Rattle.digit_patterns.specs.PatternParts.{PatternParts}
use Rattle.plan_difference.specs.Blocked.{AreJoint}
use Rattle.plan_difference.specs.Gathered.{has_no_star, joint}
use Rattle.plan_difference.specs.Order.{IsOf}
use Rattle.plan_difference.specs.Walk.{SettlesPattern}
use Rattle.plan_difference.proofs.EntryLemmas.{grows_then}
use Rattle.plan_difference.proofs.JointLemmas.{chosen_by_text, pattern_literal, pattern_settled}
use Rattle.plan_difference.proofs.OrderLemmas.{adds_then}
use Rattle.plan_difference.proofs.WalkLemmas.{below_more, pattern_on, stands_within}
use Rattle.plan_difference.proofs.joint_walk.add_chosen.Goals as goal

pub chosen_at-requires : goal.chosen_at-requires
chosen_at-requires c =
    omega (arith, c.loop-place-test.true, c.requires.size)

pub add_joint_stem-requires : goal.add_joint_stem-requires
add_joint_stem-requires c =
    chosen_by_text c.args.old.now.commands c.args.new.now.commands c.args.heads.now
    c.args.patterns.now c.args.chosen.now c.loop-place.place c.literals_at-stem.result.now
    c.chosen_at.result c.literals_at-stem.ensures.is c.chosen_at.ensures c.requires.chosen

pub loop-place-preserved : goal.loop-place-preserved
loop-place-preserved c =
    let old = c.args.old.now.commands in
    let new = c.args.new.now.commands in
    let heads = c.args.heads.now in
    let patterns = c.args.patterns.now in
    let sets = c.loop-place.sets in
    let after = c.add_joint_stem.new.sets in
    let place = c.loop-place.place in
    let grows = c.in_ok-add_joint_stem.ensures.grows in
    record {
      grows = grows_then old new c.args.sets.now sets after c.loop-place.invariant.grows grows;
      adds = adds_then (IsOf joint heads) c.args.sets.now sets after c.loop-place.invariant.adds
          c.in_ok-add_joint_stem.ensures.adds;
      settles = below_more (λ k. (pattern : PatternParts) → slice_get patterns k ≡ Some pattern
          → AreJoint old new heads → SettlesPattern old new after heads joint [] pattern) place
          (λ k below pattern there each. pattern_on old new sets after grows heads joint [] pattern
          (c.loop-place.invariant.settles k below pattern there each))
          (pattern_settled old new after heads patterns place c.literals_at-stem.result.now
          c.literals_at-stem.ensures.is c.in_ok-add_joint_stem.ensures.settles);
      literal = below_more (λ k. (pattern : PatternParts) → slice_get patterns k ≡ Some pattern
          → has_no_star pattern.literals ≡ true) place c.loop-place.invariant.literal
          (pattern_literal patterns place c.literals_at-stem.result.now
          c.literals_at-stem.ensures.is c.literals_at-stem.ensures.literal);
    }

pub returns-clause-settles : goal.returns-clause-settles
returns-clause-settles c = λ each (at : ℕ) (pattern : PatternParts) there.
    let low = stands_within c.args.patterns.now at pattern there in
    let last = c.loop-place-test.false in
    c.loop-place.invariant.settles at
    (let within : at < c.loop-place.place = omega (arith, low, last) in within) pattern there each

pub returns-clause-literal : goal.returns-clause-literal
returns-clause-literal c = λ (at : ℕ) (pattern : PatternParts) there.
    let low = stands_within c.args.patterns.now at pattern there in
    let last = c.loop-place-test.false in
    c.loop-place.invariant.literal at
    (let within : at < c.loop-place.place = omega (arith, low, last) in within) pattern there
