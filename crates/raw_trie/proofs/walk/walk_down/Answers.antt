use Rattle.std.proofs.Common.{◌+◌, take, sym, ◌∙◌, subst, arith}
use Rattle.std.proofs.lemmas.List.{length-set}
use Rattle.raw_trie.specs.Trie.{At, paths_of}
use Rattle.raw_trie.specs.Walk.{LeadsOn, LinkAt}
use Rattle.raw_trie.proofs.Steps.{goes_down, digits_more, nodes_more}
use Rattle.raw_trie.proofs.walk.walk_down.Goals as goal

pub look_at-link-requires-clause-node : goal.look_at-link-requires-clause-node
look_at-link-requires-clause-node c =
    (goes_down c.args.trie.now c.args.text.now c.loop-next.depth c.loop-next.next
    c.loop-next.invariant.link c.loop-next-test.true).at.0

pub listed : goal.listed
listed c =
    let goes =
    goes_down c.args.trie.now c.args.text.now c.loop-next.depth c.loop-next.next
    c.loop-next.invariant.link c.loop-next-test.true in
    omega (arith, goes.early, c.requires.short, c.loop-next.invariant.sized)

pub bounds-nodes-depth : goal.bounds-nodes-depth
bounds-nodes-depth c =
    let goes =
    goes_down c.args.trie.now c.args.text.now c.loop-next.depth c.loop-next.next
    c.loop-next.invariant.link c.loop-next-test.true in
    omega (arith, goes.early, c.requires.short)

pub loop-next-smaller : goal.loop-next-smaller
loop-next-smaller c =
    let goes =
    goes_down c.args.trie.now c.args.text.now c.loop-next.depth c.loop-next.next
    c.loop-next.invariant.link c.loop-next-test.true in
    omega (arith, goes.early)

pub loop-next-preserved : goal.loop-next-preserved
loop-next-preserved c =
    let rows = c.args.trie.now in
    let text = c.args.text.now in
    let depth = c.loop-next.depth in
    let node = c.loop-next.next in
    let goes =
    goes_down rows text depth node c.loop-next.invariant.link c.loop-next-test.true in
    let leads : LeadsOn rows (take (depth + 1) text) c.digit_at.result c.look_at-link.result.0 =
    subst (λ p. LeadsOn rows p c.digit_at.result c.look_at-link.result.0) goes.at.1
    c.look_at-link.ensures.next in
    record {
      within = omega (arith, goes.early);
      sized = length-set c.loop-next.nodes (depth + 1) c.look_at-link.result.1
          ∙ c.loop-next.invariant.sized;
      digits = digits_more text depth goes.early c.loop-next.invariant.digits goes.digit;
      nodes = nodes_more rows text c.loop-next.nodes depth c.look_at-link.result.1
          (omega (arith, goes.early, c.requires.short, c.loop-next.invariant.sized))
          c.loop-next.invariant.nodes
          (subst (λ n. At (paths_of rows) n (take (depth + 1) text))
          (sym c.look_at-link.ensures.looked) goes.at);
      link = subst (λ d. LeadsOn rows (take (depth + 1) text) d c.look_at-link.result.0)
          c.digit_at.ensures leads;
      counted = omega (arith, c.look_at-link.ensures.counted, c.loop-next.invariant.counted);
    }

pub returns-clause-last : goal.returns-clause-last
returns-clause-last c =
    subst (LinkAt c.args.trie.now c.args.text.now c.loop-next.depth) c.loop-next-test.false
    c.loop-next.invariant.link
