use Rattle.std.proofs.Common.{arith, ap}
use Rattle.std.specs.Prelude.{not}
use Rattle.std.specs.List.{position_or_len}
use Rattle.std.proofs.lemmas.List.Sums.{prefix_len-le-length}
use Rattle.gk_terms.specs.Text.{is_blank}
use Rattle.gk_terms.proofs.BlockLemmas.{from_place, next_with, next_without}
use Rattle.gk_terms.proofs.words.length_of_word.Goals as goal

pub returns-then-blanks-ne0 : goal.returns-then-blanks-ne0
returns-then-blanks-ne0 c =
    next_with is_blank 16 c.loop-at.at _ c.args.line.now (omega arith) c.loop-at.invariant.1
    c.blanks_in_sixteen-blanks.ensures (omega arith) c.if-blanks-ne0.true

pub loop-at-preserved : goal.loop-at-preserved
loop-at-preserved c = (
  omega arith,
  next_without is_blank 16 c.loop-at.at _ c.args.line.now (omega arith) c.loop-at.invariant.1
      c.blanks_in_sixteen-blanks.ensures c.if-blanks-ne0.false,
)

pub overflow_add-result-2 : goal.overflow_add-result-2
overflow_add-result-2 c =
    let line = c.args.line.now in
    let before = prefix_len-le-length (λ b. not (is_blank b)) line in
    let same = ap (position_or_len is_blank) (from_place c.loop-at.at line) in
    let rest = c.bytes_before_blank.ensures in
    record { fits = omega (arith, before, same, c.loop-at.invariant.1, rest) }
