use Rattle.std.proofs.Common.{◌∙◌, is_some, sym, ap, subst}
use Rattle.std.specs.Prelude.{None, slice_index_or}
use Rattle.std.proofs.lemmas.List.{get_or-set_other, get_or-set_same}
use Rattle.std.proofs.lemmas.List.Sorted.{IsPermutation-refl}
use Rattle.plan_difference.specs.Blocked.{IsFound}
use Rattle.plan_difference.proofs.ChoosingLemmas.{tried_before, tried_now}
use Rattle.plan_difference.proofs.choosing.choose_at.Goals as goal

pub returns-then-is_empty-clause-moved : goal.returns-then-is_empty-clause-moved
returns-then-is_empty-clause-moved c = IsPermutation-refl c.args.heads.now

pub returns-then-is_some-clause-moved : goal.returns-then-is_some-clause-moved
returns-then-is_some-clause-moved c = IsPermutation-refl c.args.heads.now

pub returns-then-is_some-clause-tried : goal.returns-then-is_some-clause-tried
returns-then-is_some-clause-tried c = λ some.
    tried_before c.args.old.now.commands c.args.new.now.commands c.args.heads.now c.args.stem.now
    (slice_index_or c.args.chosen.now c.args.place None)
    (ap is_some (sym c.chosen_at.ensures) ∙ sym c.is_some.ensures ∙ c.if-is_some.true)

pub returns-clause-tried : goal.returns-clause-tried
returns-clause-tried c = λ some.
    tried_now c.args.old.now.commands c.args.new.now.commands c.find-found.new.heads c.args.stem.now
    (slice_index_or c.args.chosen.now c.args.place None)
    (slice_index_or c.put.new.chosen c.args.place None)
    (ap is_some (sym c.chosen_at.ensures) ∙ sym c.is_some.ensures ∙ c.if-is_some.false)
    (subst (IsFound c.args.old.now.commands c.args.new.now.commands c.find-found.new.heads
    c.args.stem.now) (sym (ap (λ l. slice_index_or l c.args.place None) c.put.ensures
    ∙ get_or-set_same c.args.chosen.now c.args.place c.find-found.result None c.requires.within))
    c.find-found.ensures.found)

pub returns-clause-others : goal.returns-clause-others
returns-clause-others c = λ other apart.
    ap (λ l. slice_index_or l other None) c.put.ensures
    ∙ get_or-set_other c.args.chosen.now c.args.place other c.find-found.result None apart
