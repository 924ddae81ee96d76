use Rattle.std.proofs.Common.{◌<◌, ◌≤◌, length, get_or, arith}
use Rattle.std.proofs.lemmas.List.Sorted.{IsPermutation-refl, IsPermutation-trans}
use Rattle.plan_difference.proofs.PassedLemmas.{first_moved, found_at, found_none, passed_moved, rising_moved}
use Rattle.plan_difference.proofs.passing.find.Goals as goal

pub loop-place-init : goal.loop-place-init
loop-place-init c = record {
  first = c.first_at-start.ensures;
  passed = c.requires.passed;
  rising = c.requires.rising;
  moved = IsPermutation-refl c.args.heads.now;
}

pub pass-requires-clause-within : goal.pass-requires-clause-within
pass-requires-clause-within c =
    omega (arith, c.loop-place-test.true, c.loop-place.auto.heads)

pub pass-requires-clause-least : goal.pass-requires-clause-least
pass-requires-clause-least c =
    omega (arith, c.in-Some.ensures.0, c.requires.few)

pub loop-place-preserved : goal.loop-place-preserved
loop-place-preserved c =
    let old = c.args.old.now.commands in
    let new = c.args.new.now.commands in
    let heads = c.loop-place.heads in
    let moved = c.pass.new.heads in
    let before = c.loop-place.firsts in
    let after = c.pass.new.firsts in
    let stem = c.args.stem.now in
    let place = c.loop-place.place in
    let least = c.in-Some.level in
    let low = c.in-Some.ensures.0 in
    let few = c.requires.few in
    let most : least ≤ 32 = omega (arith, low, few) in
    let within : place < length heads =
    omega (arith, c.loop-place-test.true, c.loop-place.auto.heads) in
    let i = c.loop-place.invariant in
    record {
      first = first_moved old new heads moved before after stem least place i.rising i.first most
          within c.pass.auto.heads c.pass.ensures.raised c.pass.ensures.swapped
          c.in-Some.ensures.1 i.passed;
      passed = passed_moved old new heads moved before after stem least place i.rising i.first most
          within c.pass.auto.heads c.pass.ensures.raised c.pass.ensures.swapped
          c.in-Some.ensures.1 i.passed;
      rising = rising_moved old new heads moved before after stem least place i.rising i.first most
          within c.pass.auto.heads c.pass.ensures.raised c.pass.ensures.swapped
          c.in-Some.ensures.1 i.passed;
      moved = IsPermutation-trans c.args.heads.now heads moved i.moved c.pass.ensures.moved;
    }

pub returns-in-None-clause-found : goal.returns-in-None-clause-found
returns-in-None-clause-found c =
    found_at c.args.old.now.commands c.args.new.now.commands c.loop-place.heads c.args.stem.now
    c.loop-place.place
    (let within : c.loop-place.place < length c.loop-place.heads =
    omega (arith, c.loop-place-test.true, c.loop-place.auto.heads) in within)
    c.copied_at.result c.copied_at.ensures c.in-None.ensures

pub returns-clause-found : goal.returns-clause-found
returns-clause-found c =
    let last = c.loop-place-test.false in
    let i = c.loop-place.invariant in
    let first = i.first in
    found_none c.args.old.now.commands c.args.new.now.commands c.loop-place.heads
    c.loop-place.firsts c.args.stem.now c.requires.few i.passed
    (let all : length c.loop-place.heads ≤ get_or c.loop-place.firsts 32 0 =
    omega (arith, last, first, c.loop-place.auto.heads) in all)
