use Rattle.std.proofs.Common.{sym, refl, ◌∙◌}
use Rattle.std.specs.Map.{lookup}
use Rattle.indexmap.proofs.CallerLemmas.{insert_entry-new}
use Rattle.plan_difference.specs.Entries.{same_set}
use Rattle.plan_difference.proofs.EntryLemmas.{there_already, put_last, none_found}
use Rattle.plan_difference.proofs.sets.note.Goals as goal

pub returns-then-contains_key-clause-noted : goal.returns-then-contains_key-clause-noted
returns-then-contains_key-clause-noted c =
    there_already c.args.found.now.entries c.args.found.now.entries c.args.set.now
    c.args.digits.now c.of-held.result c.of-held.ensures
    (sym c.contains_key.ensures ∙ c.if-contains_key.true) refl

pub returns-clause-noted : goal.returns-clause-noted
returns-clause-noted c =
    let absent = sym c.contains_key.ensures ∙ c.if-contains_key.false in
    put_last c.args.found.now.entries c.insert.new.self.entries c.args.set.now
    c.args.digits.now c.of-held.result c.of-held.ensures absent
    (c.in_ok-insert.ensures.entries
    ∙ insert_entry-new same_set c.args.found.now c.of-held.result c.args.digits.now
    (none_found (lookup (same_set c.of-held.result) c.args.found.now.entries) absent))
