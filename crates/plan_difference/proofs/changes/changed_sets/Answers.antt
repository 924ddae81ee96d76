use Rattle.plan_difference.proofs.ChangeLemmas.{changed_difference, changed_sampled, part_grouped}
use Rattle.plan_difference.proofs.changes.changed_sets.Goals as goal

pub returns-clause-difference : goal.returns-clause-difference
returns-clause-difference c =
    changed_difference c.args.old.now.commands c.args.new.now.commands c.args.classes.now
    c.in_ok-changed.changed c.requires.classes c.requires.digits c.in_ok-changed.ensures
    c.len-count.ensures.once

pub returns-clause-samples : goal.returns-clause-samples
returns-clause-samples c =
    changed_sampled c.args.old.now.commands c.args.new.now.commands c.args.classes.now
    c.in_ok-changed.changed c.requires.classes c.requires.digits c.in_ok-changed.ensures

pub returns-clause-grouped : goal.returns-clause-grouped
returns-clause-grouped c =
    part_grouped c.args.old.now.commands c.args.new.now.commands c.args.classes.now
    c.in_ok-changed.changed c.in_ok-changed.ensures c.requires.grouped
