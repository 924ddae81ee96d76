use Rattle.std.proofs.Common.{◌≡◌, ℕ, ◌<◌, arith, true}
use Rattle.digit_patterns.specs.PatternParts.{PatternParts}
use Rattle.plan_difference.specs.Gathered.{has_no_star}
use Rattle.plan_difference.specs.Order.{IsOf}
use Rattle.plan_difference.specs.Walk.{SettlesPattern}
use Rattle.plan_difference.proofs.EntryLemmas.{grows_then}
use Rattle.plan_difference.proofs.GatherLemmas.{item_at}
use Rattle.plan_difference.proofs.OrderLemmas.{adds_then}
use Rattle.plan_difference.proofs.WalkLemmas.{places_more, pattern_on, stands_within}
use Rattle.plan_difference.proofs.walk.add_patterns.Goals as goal

pub loop-pattern-preserved : goal.loop-pattern-preserved
loop-pattern-preserved c =
    let old = c.args.old.now.commands in
    let new = c.args.new.now.commands in
    let heads = c.args.heads.now in
    let group = c.args.group.now in
    let front = c.args.front.now in
    let patterns = c.args.patterns.now in
    let before = c.loop-pattern.sets in
    let after = c.add_pattern.new.sets in
    let place = c.loop-pattern.pattern-index in
    let pattern = c.pattern-item.result in
    let at = item_at patterns place pattern c.pattern-item.is c.loop-pattern-test.true in
    let grows = c.in_ok-add_pattern.ensures.grows in
    record {
      grows = grows_then old new c.args.sets.now before after c.loop-pattern.invariant.grows grows;
      settles = places_more patterns (SettlesPattern old new after heads group front) place pattern
          at c.in_ok-add_pattern.ensures.settles
          (λ k below other there. pattern_on old new before after grows heads group front other
          (c.loop-pattern.invariant.settles k below other there));
      literal = places_more patterns (λ other. has_no_star other.literals ≡ true) place pattern
          at c.add_pattern.ensures.literal c.loop-pattern.invariant.literal;
      adds = adds_then (IsOf group heads) c.args.sets.now before after
          c.loop-pattern.invariant.adds c.in_ok-add_pattern.ensures.adds;
    }

pub returns-clause-settles : goal.returns-clause-settles
returns-clause-settles c = λ (place : ℕ) (pattern : PatternParts) at.
    let low = stands_within c.args.patterns.now place pattern at in
    let last = c.loop-pattern-test.false in
    c.loop-pattern.invariant.settles place
    (let within : place < c.loop-pattern.pattern-index = omega (arith, low, last) in within)
    pattern at

pub returns-clause-literal : goal.returns-clause-literal
returns-clause-literal c = λ (place : ℕ) (pattern : PatternParts) at.
    let low = stands_within c.args.patterns.now place pattern at in
    let last = c.loop-pattern-test.false in
    c.loop-pattern.invariant.literal place
    (let within : place < c.loop-pattern.pattern-index = omega (arith, low, last) in within)
    pattern at
