use Rattle.std.proofs.Common.{◌≡◌, ◌+◌, ◌*◌, ◌<◌, ◌≤◌, [], length, true, false, inl, inr, sym, ap, ◌∙◌, subst, arith}
use Rattle.std.specs.Prelude.{IfSome, slice_index_or}
use Rattle.raw_trie.specs.Found.{IsFound}
use Rattle.raw_trie.specs.Looks.{dot_nodes}
use Rattle.raw_trie.specs.Trie.{paths_of}
use Rattle.raw_trie.specs.Walk.{Shows}
use Rattle.raw_trie.proofs.Looks.{dot_nodes-walked, with_hit-literals}
use Rattle.raw_trie.proofs.Search.{starred_step, plain_step, next_step, stop_step, dot_on, no_dot_on}
use Rattle.raw_trie.proofs.walk.longest_dots.Goals as goal

pub loop-dots-preserved : goal.loop-dots-preserved
loop-dots-preserved c =
    let rows = c.args.trie.now in
    let text = c.args.text.now in
    let k = c.args.literals in
    let j = c.loop-dots.dots in
    let early : k + j < length text = omega (arith, c.requires.within, c.loop-dots-test.true) in
    let inside : k + j ≤ length text = omega arith in
    let shown = c.loop-dots.invariant.shown in let seen = c.loop-dots.seen in
    let starred =
    starred_step rows text c.requires.short k j inside c.requires.digits seen shown (66 * k)
    c.loop-dots.best c.loop-dots.invariant.found in
    let next =
    next_step rows text c.requires.short k j inside c.requires.digits seen shown early (66 * k) _
    starred in
    let on =
    dot_on rows text c.requires.short k j inside c.requires.digits seen shown c.if-seen-eq0.false in
    record {
      shown = subst (λ p. Shows rows p c.seen_at-seen.result)
          (ap (λ n. slice_index_or (paths_of rows) n []) c.look_at-looked.ensures.looked ∙ on.1)
          c.seen_at-seen.ensures;
      found = subst (IsFound rows text (66 * k) (66 * k + 2 * (j + 1)))
          (sym c.with_hit-best.ensures) next;
      within = omega arith;
      literals = subst (λ b. IfSome b (λ hit. hit.literals ≡ k)) (sym c.with_hit-best.ensures)
          (with_hit-literals seen.starred k j true c.loop-dots.best c.loop-dots.invariant.literals);
      counted = omega (arith, c.look_at-looked.ensures.counted, c.loop-dots.invariant.counted);
    }

pub returns-then-seen-eq0-clause-found : goal.returns-then-seen-eq0-clause-found
returns-then-seen-eq0-clause-found c =
    let rows = c.args.trie.now in
    let text = c.args.text.now in
    let k = c.args.literals in
    let j = c.loop-dots.dots in
    let early : k + j < length text = omega (arith, c.requires.within, c.loop-dots-test.true) in
    let inside : k + j ≤ length text = omega arith in
    let shown = c.loop-dots.invariant.shown in let seen = c.loop-dots.seen in
    let starred =
    starred_step rows text c.requires.short k j inside c.requires.digits seen shown (66 * k)
    c.loop-dots.best c.loop-dots.invariant.found in
    subst (IsFound rows text (66 * k) (66 * (k + 1))) (sym c.with_hit-best.ensures)
    (stop_step rows text c.requires.short k j inside c.requires.digits seen shown early
    c.if-seen-eq0.true (66 * k) _ starred)

pub returns-clause-found : goal.returns-clause-found
returns-clause-found c =
    let rows = c.args.trie.now in
    let text = c.args.text.now in
    let k = c.args.literals in
    let j = c.loop-dots.dots in
    let inside : k + j ≤ length text = c.loop-dots.invariant.within in
    let full : k + j ≡ length text =
    omega (arith, c.requires.within, c.loop-dots-test.false, inside) in
    let shown = c.loop-dots.invariant.shown in let seen = c.loop-dots.seen in
    let starred =
    starred_step rows text c.requires.short k j inside c.requires.digits seen shown (66 * k)
    c.loop-dots.best c.loop-dots.invariant.found in
    let here : IsFound rows text (66 * k) (66 * k + 2 * j + 1) c.with_hit-best-2.result =
    subst (IsFound rows text (66 * k) (66 * k + 2 * j + 1)) (sym c.with_hit-best-2.ensures)
    starred in
    subst (IsFound rows text (66 * k) (66 * (k + 1))) (sym c.with_hit.ensures)
    (plain_step rows text c.requires.short k j inside c.requires.digits seen shown full (66 * k)
    c.with_hit-best-2.result here)

pub returns-then-seen-eq0-clause-literals : goal.returns-then-seen-eq0-clause-literals
returns-then-seen-eq0-clause-literals c =
    subst (λ b. IfSome b (λ hit. hit.literals ≡ c.args.literals)) (sym c.with_hit-best.ensures)
    (with_hit-literals c.loop-dots.seen.starred c.args.literals c.loop-dots.dots true
    c.loop-dots.best c.loop-dots.invariant.literals)

pub returns-clause-literals : goal.returns-clause-literals
returns-clause-literals c =
    let k = c.args.literals in
    let j = c.loop-dots.dots in
    let seen = c.loop-dots.seen in
    let starred : IfSome c.with_hit-best-2.result (λ hit. hit.literals ≡ k) =
    subst (λ b. IfSome b (λ hit. hit.literals ≡ k)) (sym c.with_hit-best-2.ensures)
    (with_hit-literals seen.starred k j true c.loop-dots.best c.loop-dots.invariant.literals) in
    subst (λ b. IfSome b (λ hit. hit.literals ≡ k)) (sym c.with_hit.ensures)
    (with_hit-literals seen.plain k j false c.with_hit-best-2.result starred)

pub returns-then-seen-eq0-clause-looks : goal.returns-then-seen-eq0-clause-looks
returns-then-seen-eq0-clause-looks c =
    let rows = c.args.trie.now in
    let text = c.args.text.now in
    let k = c.args.literals in
    let j = c.loop-dots.dots in
    let inside : k + j ≤ length text = c.loop-dots.invariant.within in
    let shown = c.loop-dots.invariant.shown in let seen = c.loop-dots.seen in
    let all : dot_nodes rows text k ≡ j =
    dot_nodes-walked rows shown.words text k j shown.node shown.represents.trie inside shown.at
    (inr (no_dot_on rows text c.requires.short k j inside c.requires.digits seen shown
    c.if-seen-eq0.true)) in
    c.loop-dots.invariant.counted ∙ ap (λ n. c.args.looks.now + n) (sym all)

pub returns-clause-looks : goal.returns-clause-looks
returns-clause-looks c =
    let rows = c.args.trie.now in
    let text = c.args.text.now in
    let k = c.args.literals in
    let j = c.loop-dots.dots in
    let inside : k + j ≤ length text = c.loop-dots.invariant.within in
    let full : k + j ≡ length text =
    omega (arith, c.requires.within, c.loop-dots-test.false, inside) in
    let shown = c.loop-dots.invariant.shown in
    let all : dot_nodes rows text k ≡ j =
    dot_nodes-walked rows shown.words text k j shown.node shown.represents.trie inside shown.at
    (inl full) in
    c.loop-dots.invariant.counted ∙ ap (λ n. c.args.looks.now + n) (sym all)
