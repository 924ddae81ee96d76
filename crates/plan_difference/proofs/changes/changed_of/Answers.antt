use Rattle.std.proofs.Common.{rules, ◌<◌, length}
use Rattle.plan_difference.proofs.ChangeLemmas.{changed_more}
use Rattle.plan_difference.proofs.changes.changed_of.Goals as goal

pub loop-place-preserved : goal.loop-place-preserved
loop-place-preserved c =
    let within : c.loop-place.place < length c.args.sets.now = search rules in
    changed_more c.args.old.now.commands c.args.new.now.commands c.args.sets.now
    c.len-place-end.ensures.once c.loop-place.place c.loop-place.changed c.add_at.new.changed
    c.loop-place.invariant within c.in_ok-add_at.ensures
