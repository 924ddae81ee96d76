use Rattle.std.proofs.Common.{sym, arith}
use Rattle.gk_terms.proofs.BlockLemmas.{next_fail, next_pass, last_decide}
use Rattle.gk_terms.proofs.byte_kinds.are_all.Goals as goal

pub returns-then-not-are_first_eight_of_kind : goal.returns-then-not-are_first_eight_of_kind
returns-then-not-are_first_eight_of_kind g c =
    sym (next_fail g.K.ByteKind.is_of_kind 8 c.loop-at.at c.args.text.now c.loop-at.invariant.1 _
    c.are_first_eight_of_kind.ensures c.if-not-are_first_eight_of_kind.true)

pub loop-at-preserved : goal.loop-at-preserved
loop-at-preserved g c = (
  omega arith,
  next_pass g.K.ByteKind.is_of_kind 8 c.loop-at.at c.args.text.now c.loop-at.invariant.1 _
      c.are_first_eight_of_kind.ensures c.if-not-are_first_eight_of_kind.false,
)

pub returns : goal.returns
returns g c =
    last_decide g.K.ByteKind.is_of_kind 8 c.loop-at.at c.args.text.now _ c.loop-at.invariant.1
    (omega arith) (omega arith) c.are_first_eight_of_kind-2.ensures
