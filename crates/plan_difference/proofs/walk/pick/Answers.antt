use Rattle.std.proofs.Common.{◌∙◌, ap, sym, ◌++◌, ◌≤◌, length, arith, true≢false}
use Rattle.gk_terms.specs.Dialled.{dialled_of}
use Rattle.plan_difference.specs.Walk.{starred}
use Rattle.plan_difference.proofs.GatherLemmas.{item_at}
use Rattle.plan_difference.proofs.WalkLemmas.{is_pick_of, not_more, not_picked, not_dialled, no_room, no_pick}
use Rattle.plan_difference.proofs.walk.pick.Goals as goal
use Rattle.plan_difference.proofs.walk.pick.Goals.{in-Some+else-is_pick, in_default}

pub returns-then-not-fits : goal.returns-then-not-fits
returns-then-not-fits c =
    no_room c.args.old.now.commands c.args.new.now.commands c.args.heads.now c.args.group.now
    c.args.stem.now c.args.stars (sym c.fits.ensures ∙ c.if-not-fits.true)

pub returns-then-is_pick : goal.returns-then-is_pick
returns-then-is_pick c =
    let stem = c.args.stem.now in
    let stars = c.args.stars in
    is_pick_of c.args.old.now.commands c.args.new.now.commands c.args.heads.now c.args.group.now
    stem stars c.loop-head.head-index c.head-item.result c.in-Some.digits
    (item_at c.args.heads.now c.loop-head.head-index c.head-item.result c.head-item.is
    c.loop-head-test.true)
    (ap (λ text. dialled_of (starred (text ++ stem) stars)) (sym c.text_of.ensures)
    ∙ sym c.in-Some.ensures) (c.is_pick.ensures.0 c.if-is_pick.true)

pub loop-head-preserved : goal.loop-head-preserved
loop-head-preserved c =
    let old = c.args.old.now.commands in
    let new = c.args.new.now.commands in
    let heads = c.args.heads.now in
    let group = c.args.group.now in
    let stem = c.args.stem.now in
    let stars = c.args.stars in
    let place = c.loop-head.head-index in
    let head = c.head-item.result in
    let at = item_at heads place head c.head-item.is c.loop-head-test.true in
    let spelled = ap (λ text. dialled_of (starred (text ++ stem) stars)) (sym c.text_of.ensures) in
    elim c.match-starred.branch [
      | in-Some+else-is_pick w ↦
          not_more old new heads group stem stars place head at
          (not_picked old new heads group stem stars head w.in-Some.digits
          (spelled ∙ sym w.in-Some.ensures)
          (λ told. true≢false (sym (w.is_pick.ensures.1 told) ∙ w.if-is_pick.false)))
          c.loop-head.invariant
      | in_default w ↦
          not_more old new heads group stem stars place head at
          (not_dialled old new heads group stem stars head (spelled ∙ sym w.in_default.ensures))
          c.loop-head.invariant
    ]

pub returns : goal.returns
returns c =
    let last = c.loop-head-test.false in
    no_pick c.args.old.now.commands c.args.new.now.commands c.args.heads.now c.args.group.now
    c.args.stem.now c.args.stars c.loop-head.head-index
    (let whole : length c.args.heads.now ≤ c.loop-head.head-index = omega (arith, last) in whole)
    c.loop-head.invariant
