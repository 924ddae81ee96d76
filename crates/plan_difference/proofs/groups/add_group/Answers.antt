use Rattle.std.proofs.Common.{Some, [], ◌∷◌}
use Rattle.plan_difference.specs.Order.{IsOf}
use Rattle.plan_difference.proofs.EntryLemmas.{grows_then}
use Rattle.plan_difference.proofs.OrderLemmas.{adds_both, adds_then}
use Rattle.plan_difference.proofs.WalkLemmas.{grows_both, group_settled}
use Rattle.plan_difference.proofs.groups.add_group.Goals as goal

pub returns-clause-grows : goal.returns-clause-grows
returns-clause-grows c =
    let old = c.args.old.now.commands in
    let new = c.args.new.now.commands in
    grows_both old new c.args.sets.now c.add_side.new.sets c.add_side-2.new.sets
    c.add_side-2.result c.add_side-2.ensures.grows
    (grows_then old new c.args.sets.now c.add_stem.new.sets c.add_side.new.sets
    c.in_ok-add_stem.ensures.grows c.in_ok-add_side.ensures.grows)

pub returns-clause-settles : goal.returns-clause-settles
returns-clause-settles c =
    group_settled c.args.old.now.commands c.args.new.now.commands c.add_stem.new.sets
    c.add_side.new.sets c.add_side-2.new.sets c.args.patterns.now c.args.prefix.now
    c.args.group.now c.in_ok-add_side.ensures.grows c.add_side-2.result
    c.add_side-2.ensures.grows c.in_ok-add_stem.ensures.settles
    c.in_ok-add_side.ensures.settles c.add_side-2.ensures.settles

pub returns-clause-adds : goal.returns-clause-adds
returns-clause-adds c =
    let is = IsOf c.args.group.now (Some c.args.prefix.now ∷ []) in
    adds_both is c.args.sets.now c.add_side.new.sets c.add_side-2.new.sets c.add_side-2.result
    c.add_side-2.ensures.adds
    (adds_then is c.args.sets.now c.add_stem.new.sets c.add_side.new.sets
    c.in_ok-add_stem.ensures.adds c.in_ok-add_side.ensures.adds)
