use Rattle.plan_difference.proofs.EntryLemmas.{once_by}
use Rattle.plan_difference.proofs.sets.Sets.note.Goals as goal

pub invariant_of-self : goal.invariant_of-self
invariant_of-self c =
    once_by c.self.inside.found.entries c.note.new.found.entries c.args.set.now c.args.digits.now
    c.note.result c.note.ensures.noted c.note.ensures.unchanged c.self.invariant
