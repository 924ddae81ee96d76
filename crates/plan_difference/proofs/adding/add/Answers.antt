use Rattle.std.proofs.Common.{subst}
use Rattle.std.specs.Prelude.{OnOk}
use Rattle.plan_difference.specs.Entries.{NotedBy}
use Rattle.plan_difference.proofs.EntryLemmas.{added_grows, added_enters}
use Rattle.plan_difference.proofs.adding.add.Goals as goal

pub returns-clause-grows : goal.returns-clause-grows
returns-clause-grows c =
    let digits = c.args.digits.now in
    added_grows c.args.old.now.commands c.args.new.now.commands c.args.sets.now c.note.new.self
    digits c.note.result c.as_bytes-text.ensures.dialled
    (subst (λ set. OnOk c.note.result (NotedBy c.args.sets.now c.note.new.self set digits))
    c.set_of.ensures c.note.ensures)

pub returns-clause-entered : goal.returns-clause-entered
returns-clause-entered c =
    let digits = c.args.digits.now in
    added_enters c.args.old.now.commands c.args.new.now.commands c.args.sets.now c.note.new.self
    digits c.note.result c.as_bytes-text.ensures.dialled
    (subst (λ set. OnOk c.note.result (NotedBy c.args.sets.now c.note.new.self set digits))
    c.set_of.ensures c.note.ensures)

pub returns-clause-noted : goal.returns-clause-noted
returns-clause-noted c =
    subst (λ set. OnOk c.note.result (NotedBy c.args.sets.now c.note.new.self set
    c.args.digits.now)) c.set_of.ensures c.note.ensures
