use Rattle.std.proofs.Common.{◌≡◌, ℕ, ◌<◌, List, Option, Some, arith, true}
use Rattle.std.specs.Prelude.{IfSome}
use Rattle.plan_difference.specs.Gathered.{has_no_star}
use Rattle.plan_difference.specs.Walk.{SettlesHead}
use Rattle.plan_difference.proofs.EntryLemmas.{grows_then}
use Rattle.plan_difference.proofs.GatherLemmas.{item_at}
use Rattle.plan_difference.proofs.OrderLemmas.{one_more_head}
use Rattle.plan_difference.proofs.WalkLemmas.{places_more, head_on, stands_within}
use Rattle.plan_difference.proofs.groups.add_groups.Goals as goal

pub loop-head-preserved : goal.loop-head-preserved
loop-head-preserved c =
    let old = c.args.old.now.commands in
    let new = c.args.new.now.commands in
    let heads = c.args.heads.now in
    let patterns = c.args.patterns.now in
    let before = c.loop-head.sets in
    let after = c.add_head.new.sets in
    let place = c.loop-head.head-index in
    let head = c.head-item.result in
    let at = item_at heads place head c.head-item.is c.loop-head-test.true in
    let grows = c.in_ok-add_head.ensures.grows in
    record {
      grows = grows_then old new c.args.sets.now before after c.loop-head.invariant.grows grows;
      settles = places_more heads (SettlesHead old new after patterns) place head at
          c.in_ok-add_head.ensures.settles
          (λ k below other there. head_on old new before after grows patterns other
          (c.loop-head.invariant.settles k below other there));
      clean = places_more heads (λ other. IfSome other (λ prefix. has_no_star prefix ≡ true)) place
          head at c.add_head.ensures.clean c.loop-head.invariant.clean;
      adds = one_more_head old new heads place head at c.args.sets.now before after
          c.loop-head.invariant.adds c.in_ok-add_head.ensures.adds;
    }

pub returns-clause-settles : goal.returns-clause-settles
returns-clause-settles c = λ (place : ℕ) (head : Option (List ℕ)) at.
    let low = stands_within c.args.heads.now place head at in
    let last = c.loop-head-test.false in
    c.loop-head.invariant.settles place
    (let within : place < c.loop-head.head-index = omega (arith, low, last) in within) head at

pub returns-clause-clean : goal.returns-clause-clean
returns-clause-clean c = λ (place : ℕ) (prefix : List ℕ) at.
    let low = stands_within c.args.heads.now place (Some prefix) at in
    let last = c.loop-head-test.false in
    c.loop-head.invariant.clean place
    (let within : place < c.loop-head.head-index = omega (arith, low, last) in within)
    (Some prefix) at

pub returns-clause-adds : goal.returns-clause-adds
returns-clause-adds c = (c.loop-head.head-index, c.loop-head.invariant.adds)
