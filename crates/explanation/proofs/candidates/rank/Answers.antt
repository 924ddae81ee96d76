use Rattle.std.proofs.Common.{◌≡◌, ◌-◌, suc, arith}
use Rattle.explanation.proofs.FoundLemmas.{ranked_all, ranked_next}
use Rattle.explanation.proofs.candidates.rank.Goals as goal

pub loop-left-preserved : goal.loop-left-preserved
loop-left-preserved c =
    let one : c.loop-left.left ≡ suc (c.loop-left.left - 1) = omega arith in
    ranked_next c.args.candidates.now (c.loop-left.left - 1) c.loop-left.left
    c.loop-left.list.items c.add_of_priority.new.list.items one c.loop-left.invariant
    c.in_ok-add_of_priority.ensures

pub returns : goal.returns
returns c =
    let none : c.loop-left.left ≡ 0 = omega arith in
    ranked_all c.args.candidates.now c.loop-left.left c.loop-left.list.items none
    c.loop-left.invariant
