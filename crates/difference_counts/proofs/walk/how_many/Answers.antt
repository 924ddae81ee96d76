use Rattle.std.proofs.Common.{◌≡◌, ◌∙◌, ℕ, false, cond, ap, sym, arith, get_or}
use Rattle.difference_counts.specs.Numbers.{sum_to}
use Rattle.difference_counts.specs.Walk.{over_ends}
use Rattle.difference_counts.proofs.SumLemmas.{sum_to_none, sum_to_more}
use Rattle.difference_counts.proofs.walk.how_many.Goals as goal
use Rattle.difference_counts.proofs.walk.how_many.Goals.{then-ends-number, else-ends-number}

pub loop-number-init : goal.loop-number-init
loop-number-init c = record {
  few = omega arith;
  whole = sym (sum_to_none (λ number. cond (get_or c.args.ends.now number false) 1 0));
}

pub loop-number-preserved : goal.loop-number-preserved
loop-number-preserved c =
    let number = c.loop-number.number in
    let few = c.loop-number.invariant.few in
    let whole = c.loop-number.invariant.whole in
    let more = sum_to_more number (λ number. cond (get_or c.args.ends.now number false) 1 0) in
    elim c.if-ends-number.branch [
      | then-ends-number w ↦
          let is = w.count-is in
          let one : ◌≡◌ {A = ℕ} (cond (get_or c.args.ends.now number false) 1 0) 1 =
          ap (λ t. cond t 1 0) w.if-ends-number.true in
          record {
            few = omega (arith, few, is);
            whole = omega (arith, whole, more, one, is);
          }
      | else-ends-number w ↦
          let is = w.count-is in
          let none : ◌≡◌ {A = ℕ} (cond (get_or c.args.ends.now number false) 1 0) 0 =
          ap (λ t. cond t 1 0) w.if-ends-number.false in
          record {
            few = omega (arith, few, is);
            whole = omega (arith, whole, more, none, is);
          }
    ]

pub returns : goal.returns
unfolding over_ends
returns c =
    let low = c.loop-number-test.false in
    let few = c.loop-number.auto.number-end in
    let all : c.loop-number.number ≡ 12 = omega (arith, low, few) in
    c.loop-number.invariant.whole
    ∙ ap (λ n. sum_to n (λ number. cond (get_or c.args.ends.now number false) 1 0)) all
