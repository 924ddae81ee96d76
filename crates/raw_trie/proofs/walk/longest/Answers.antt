use Rattle.std.proofs.Common.{◌≤◌, length, refl, sym, ◌∙◌, subst}
use Rattle.raw_trie.specs.Walk.{most_looks}
use Rattle.raw_trie.proofs.Best.{best_at_end}
use Rattle.raw_trie.proofs.Looks.{looks_walked, looks_of-most}
use Rattle.raw_trie.proofs.Steps.{root_of, no_more_literals}
use Rattle.raw_trie.proofs.walk.longest.Goals as goal

pub look_at-next-requires-clause-node : goal.look_at-next-requires-clause-node
look_at-next-requires-clause-node c = (root_of c.args.trie.now).0

pub walk_up-best-requires-clause-above : goal.walk_up-best-requires-clause-above
walk_up-best-requires-clause-above c =
    let known = c.look_at-next.ensures.trie in
    no_more_literals c.args.trie.now known.0 c.args.text.now c.walk_down-deepest.result 0 _
    known.1.trie refl c.walk_down-deepest.ensures.last refl

pub returns-clause-hit : goal.returns-clause-hit
returns-clause-hit c =
    best_at_end c.args.trie.now c.args.text.now c.walk_up-best.result
    c.look_at-next.ensures.trie.1.once c.walk_up-best.ensures.top

pub returns-clause-looks : goal.returns-clause-looks
returns-clause-looks c =
    let known = c.look_at-next.ensures.trie in
    let down = c.walk_down-deepest.ensures in
    let best = best_at_end c.args.trie.now c.args.text.now c.walk_up-best.result
    known.1.once c.walk_up-best.ensures.top in
    c.walk_up-best.ensures.looks
    ∙ looks_walked c.args.trie.now known.0 c.args.text.now c.walk_down-deepest.new.nodes
    c.walk_down-deepest.result c.walk_up-best.result known.1.trie down.within down.digits down.nodes
    down.last best

pub returns-clause-few : goal.returns-clause-few
returns-clause-few c =
    let rows = c.args.trie.now in
    let text = c.args.text.now in
    let known = c.look_at-next.ensures.trie in
    let down = c.walk_down-deepest.ensures in
    let best =
    best_at_end rows text c.walk_up-best.result known.1.once c.walk_up-best.ensures.top in
    let exact =
    c.walk_up-best.ensures.looks
    ∙ looks_walked rows known.0 text c.walk_down-deepest.new.nodes c.walk_down-deepest.result
    c.walk_up-best.result known.1.trie down.within down.digits down.nodes down.last best in
    subst (λ n. n ≤ most_looks (length text)) (sym exact) (looks_of-most rows text)
