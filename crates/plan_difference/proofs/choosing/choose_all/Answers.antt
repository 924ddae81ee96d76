use Rattle.std.proofs.Common.{◌≡◌, ◌∙◌, subst, arith, length}
use Rattle.std.specs.Prelude.{None, slice_index_or}
use Rattle.plan_difference.specs.Blocked.{AreChosen, IsTried, literals_at}
use Rattle.plan_difference.proofs.ChoosingLemmas.{chosen_first, chosen_next, literals_within}
use Rattle.plan_difference.proofs.choosing.choose_all.Goals as goal

pub loop-size-init : goal.loop-size-init
loop-size-init c =
    chosen_first c.args.old.now.commands c.args.new.now.commands c.args.heads.now
    c.args.patterns.now (length c.args.patterns.now) c.args.chosen.now c.requires.start

pub choose_by-requires : goal.choose_by-requires
choose_by-requires c = c.loop-size.auto.chosen ∙ c.requires.size

pub loop-size-preserved : goal.loop-size-preserved
loop-size-preserved c = λ place some.
    let old = c.args.old.now.commands in
    let new = c.args.new.now.commands in
    let heads = c.args.heads.now in
    let patterns = c.args.patterns.now in
    let stem = literals_at patterns place in
    let before = slice_index_or c.loop-size.chosen place None in
    let after = slice_index_or c.choose_by.new.chosen place None in
    chosen_next old new heads stem c.loop-size.size before after
    (c.loop-size.invariant place some)
    (subst (λ these. IsTried old new these stem before after)
    (c.deref_mut.ensures.value ∙ c.in_ok-those.ensures)
    (c.choose_by.ensures place some (literals_within patterns place some)))

pub returns : goal.returns
returns c =
    subst (λ size. AreChosen c.args.old.now.commands c.args.new.now.commands c.args.heads.now
    c.args.patterns.now size c.loop-size.chosen)
    (let all : c.loop-size.size ≡ 33 =
    omega (arith, c.loop-size-test.false, c.loop-size.auto.size-end) in all)
    c.loop-size.invariant
