use Rattle.std.proofs.Common.{◌∙◌, ◌<◌, ◌≤◌, length, take, replicate, refl, sym, ap, subst, arith}
use Rattle.std.specs.Prelude.{None, slice_index_or}
use Rattle.std.proofs.lemmas.List.Sorted.{IsPermutation-refl, IsPermutation-trans}
use Rattle.plan_difference.specs.Blocked.{ArePassed, IsTried, literals_at}
use Rattle.plan_difference.proofs.ChoosingLemmas.{tried_among_none}
use Rattle.plan_difference.proofs.PassedLemmas.{none_passed, passed_kept, rising_kept, rising_zeros, tried_of_moved, zeros}
use Rattle.plan_difference.proofs.WalkLemmas.{below_more}
use Rattle.plan_difference.proofs.choosing.choose_by.Goals as goal

pub returns-then-is_empty : goal.returns-then-is_empty
returns-then-is_empty c = λ place some within.
    tried_among_none c.args.old.now.commands c.args.new.now.commands c.args.heads.now
    (literals_at c.args.patterns.now place)
    (sym c.is_empty.ensures ∙ c.if-is_empty.true)
    (slice_index_or c.args.chosen.now place None)

pub loop-place-init : goal.loop-place-init
loop-place-init c = record {
  passed = none_passed c.args.old.now.commands c.args.new.now.commands c.args.heads.now
      (replicate 33 0) (literals_at c.args.patterns.now 0) (zeros 33);
  rising = rising_zeros 33;
  moved = IsPermutation-refl c.args.heads.now;
  tried = λ at below. absurd (omega (arith, below));
  rest = λ at low. refl;
}

pub choose_at-requires-clause-within : goal.choose_at-requires-clause-within
choose_at-requires-clause-within c =
    omega (arith, c.loop-place-test.true, c.loop-place.auto.chosen, c.requires)

pub choose_at-requires-clause-passed : goal.choose_at-requires-clause-passed
choose_at-requires-clause-passed c =
    passed_kept c.args.old.now.commands c.args.new.now.commands c.loop-place.heads
    c.loop-place.firsts c.keep.new.firsts (literals_at c.args.patterns.now c.loop-place.before)
    c.common_length.result c.literals_at-stem.result.now c.common_length.ensures.few
    (ap (take c.common_length.result) (sym c.literals_at.ensures.is)
    ∙ c.common_length.ensures.same)
    c.keep.ensures c.loop-place.invariant.passed

pub choose_at-requires-clause-rising : goal.choose_at-requires-clause-rising
choose_at-requires-clause-rising c =
    rising_kept c.common_length.result c.loop-place.firsts c.keep.new.firsts
    c.common_length.ensures.few c.keep.ensures c.loop-place.invariant.rising

pub loop-place-preserved : goal.loop-place-preserved
loop-place-preserved c =
    let old = c.args.old.now.commands in
    let new = c.args.new.now.commands in
    let start = c.args.heads.now in
    let heads = c.choose_at.new.heads in
    let patterns = c.args.patterns.now in
    let first = c.args.chosen.now in
    let before = c.loop-place.chosen in
    let after = c.choose_at.new.chosen in
    let place = c.loop-place.place in
    let i = c.loop-place.invariant in
    let moved = IsPermutation-trans start c.loop-place.heads heads i.moved
    c.choose_at.ensures.moved in
    let stem = c.literals_at-stem.ensures.is in
    record {
      passed = subst (ArePassed old new heads c.choose_at.new.firsts) stem
          c.choose_at.ensures.passed;
      rising = c.choose_at.ensures.rising;
      moved = moved;
      tried = below_more (λ k. 0 < length (literals_at patterns k)
          → IsTried old new start (literals_at patterns k) (slice_index_or first k None)
          (slice_index_or after k None)) place
          (λ k below some. subst (IsTried old new start (literals_at patterns k)
          (slice_index_or first k None))
          (sym (c.choose_at.ensures.others k
          (λ same. let bad : ⊥ = omega (arith, below, same) in bad)))
          (i.tried k below some))
          (λ some. tried_of_moved old new start heads (literals_at patterns place)
          (slice_index_or first place None) (slice_index_or after place None) moved
          (subst (λ b. IsTried old new heads (literals_at patterns place) b
          (slice_index_or after place None)) (i.rest place (omega arith))
          (subst (λ text. 0 < length text → IsTried old new heads text
          (slice_index_or before place None) (slice_index_or after place None)) stem
          c.choose_at.ensures.tried some)));
      rest = λ k low.
          c.choose_at.ensures.others k
          (λ same. let bad : ⊥ = omega (arith, low, same) in bad)
          ∙ i.rest k (let up : place ≤ k = omega (arith, low) in up);
    }

pub returns : goal.returns
returns c = λ at some within.
    let last = c.loop-place-test.false in
    c.loop-place.invariant.tried at
    (let below : at < c.loop-place.place = omega (arith, within, last) in below) some
