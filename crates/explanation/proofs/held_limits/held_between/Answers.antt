use Rattle.explanation.proofs.HeldLemmas.{held_all}
use Rattle.explanation.proofs.held_limits.held_between.Goals as goal

pub returns : goal.returns
returns c =
    held_all c.args.tables.now.commands c.args.caller.now c.args.zone.now c.args.is_remote
    c.new-list.result.items c.add_of_kind.new.list.items c.add_of_kind-2.new.list.items
    c.add_interzone.new.list.items c.add_remote.new.list.items c.new-list.ensures.items
    c.in_ok-add_of_kind.ensures c.in_ok-add_of_kind-2.ensures c.in_ok-add_interzone.ensures
    c.in_ok-add_remote.ensures
