use Rattle.std.proofs.Common.{◌∙◌, arith}
use Rattle.gk_lines.proofs.PendingLemmas.{turns_then}
use Rattle.gk_protocol.proofs.OwnedLemmas.{lines_go_on, lines_cut}
use Rattle.gk_protocol.proofs.owned_lines.take_lines.Goals as goal

pub loop-taken-preserved : goal.loop-taken-preserved
loop-taken-preserved g c =
    let taken = c.in_ok-next_line.ensures in
    record {
      ended = taken.ended;
      under_way = lines_go_on _ _ _ _ _ _ _ _ _ _ (taken.unended_line c.if-not-branch.false)
          c.loop-taken.invariant.under_way (taken.line c.if-not-branch.false)
          c.with_line-owned.ensures;
      turns = turns_then _ _ _ _ _ _ c.loop-taken.invariant.turns c.next_line.ensures.turns;
      noted = taken.noted ∙ c.loop-taken.invariant.noted;
      work = omega (arith, c.loop-taken.invariant.work, c.next_line.ensures.work);
    }

pub returns-then-not-branch-clause-taken : goal.returns-then-not-branch-clause-taken
returns-then-not-branch-clause-taken g c =
    let ended = c.in_ok-next_line.ensures in
    lines_cut _ _ _ _ _ _ _ _ _ c.loop-taken-test.true c.loop-taken.invariant.under_way
    (ended.nothing_taken c.if-not-branch.true) (ended.none c.if-not-branch.true)
    ended.stays_ended
