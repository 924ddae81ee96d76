use Rattle.std.proofs.Common.{◌≡◌, ◌+◌, ◌-◌, ◌*◌, length, None, sym, ap, ◌∙◌, subst, arith}
use Rattle.raw_trie.specs.Found.{IsTop}
use Rattle.raw_trie.specs.Looks.{dot_nodes_between, least_literals}
use Rattle.raw_trie.proofs.Best.{top_of_found, top_lower, below_if_none}
use Rattle.raw_trie.proofs.Looks.{counted_first, counted_next, least_literals-some}
use Rattle.raw_trie.proofs.Steps.{counted_up, digits_before}
use Rattle.raw_trie.proofs.walk.walk_up.Goals as goal

pub longest_dots-best-requires-clause-digits : goal.longest_dots-best-requires-clause-digits
longest_dots-best-requires-clause-digits c =
    digits_before c.args.text.now c.args.deepest (c.loop-depth.depth - 1)
    (omega (arith, c.loop-depth.invariant.within)) c.requires.digits

pub loop-depth-init : goal.loop-depth-init
loop-depth-init c = record {
  within = omega arith;
  above = c.requires.above;
  counted = counted_first c.args.trie.now c.args.text.now (c.args.deepest + 1) _ c.requires.looks;
  few = omega (arith, c.requires.looks);
}

pub returns-then-is_some-clause-top : goal.returns-then-is_some-clause-top
returns-then-is_some-clause-top c =
    let rows = c.args.trie.now in
    let text = c.args.text.now in
    let depth = c.loop-depth.depth in
    let same : depth ≡ depth - 1 + 1 = omega (arith, c.loop-depth-test.true) in
    top_lower rows text 0 (66 * (depth - 1)) c.longest_dots-best.result
    (sym c.is_some.ensures ∙ c.if-is_some.true)
    (top_of_found rows text (66 * (depth - 1)) (66 * (depth - 1 + 1)) c.longest_dots-best.result
    c.longest_dots-best.ensures.found
    (subst (λ n. IsTop rows text (66 * n) None) same c.loop-depth.invariant.above))

pub loop-depth-preserved : goal.loop-depth-preserved
loop-depth-preserved c =
    let rows = c.args.trie.now in
    let text = c.args.text.now in
    let depth = c.loop-depth.depth in
    let same : depth ≡ depth - 1 + 1 = omega (arith, c.loop-depth-test.true) in
    record {
      within = omega (arith, c.loop-depth.invariant.within);
      above = below_if_none rows text (66 * (depth - 1)) c.longest_dots-best.result
          (sym c.is_some.ensures ∙ c.if-is_some.false)
          (top_of_found rows text (66 * (depth - 1)) (66 * (depth - 1 + 1))
          c.longest_dots-best.result c.longest_dots-best.ensures.found
          (subst (λ n. IsTop rows text (66 * n) None) same c.loop-depth.invariant.above));
      counted = counted_next rows text depth (c.args.deepest + 1) c.loop-depth.looks
          c.longest_dots-best.new.looks c.loop-depth-test.true c.loop-depth.invariant.within
          c.loop-depth.invariant.counted c.longest_dots-best.ensures.looks;
      few = counted_up (length text) depth c.loop-depth.looks c.longest_dots-best.new.looks
          c.loop-depth-test.true
          (omega (arith, c.requires.within, c.loop-depth.invariant.within))
          c.loop-depth.invariant.few c.longest_dots-best.ensures.few;
    }

pub returns-then-is_some-clause-looks : goal.returns-then-is_some-clause-looks
returns-then-is_some-clause-looks c =
    let rows = c.args.trie.now in
    let text = c.args.text.now in
    let depth = c.loop-depth.depth in
    let end = c.args.deepest + 1 in
    let least : least_literals c.longest_dots-best.result ≡ depth - 1 =
    least_literals-some c.longest_dots-best.result (depth - 1)
    (sym c.is_some.ensures ∙ c.if-is_some.true) c.longest_dots-best.ensures.literals in
    counted_next rows text depth end c.loop-depth.looks c.longest_dots-best.new.looks
    c.loop-depth-test.true c.loop-depth.invariant.within c.loop-depth.invariant.counted
    c.longest_dots-best.ensures.looks
    ∙ ap (λ n. end + dot_nodes_between rows text n end) (sym least)

pub returns-clause-looks : goal.returns-clause-looks
returns-clause-looks c =
    let end = c.args.deepest + 1 in
    let first : c.loop-depth.depth ≡ 0 = omega (arith, c.loop-depth-test.false) in
    c.loop-depth.invariant.counted
    ∙ ap (λ n. end + dot_nodes_between c.args.trie.now c.args.text.now n end) first
