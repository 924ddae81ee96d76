use Rattle.std.proofs.Common.{◌∙◌, ap, sym, subst, length}
use Rattle.std.proofs.lemmas.List.{length-replicate}
use Rattle.std.specs.Prelude.{None}
use Rattle.compiler.proofs.LimitLemmas.{written_back}
use Rattle.plan_difference.specs.Blocked.{AreChosen}
use Rattle.plan_difference.proofs.choosing.choose.Goals as goal

pub choose_all-requires-clause-size : goal.choose_all-requires-clause-size
choose_all-requires-clause-size c =
    ap length (c.deref_mut.ensures.value ∙ c.in_ok-chosen.ensures)
    ∙ length-replicate (length c.args.patterns.now) None

pub choose_all-requires-clause-start : goal.choose_all-requires-clause-start
choose_all-requires-clause-start c = c.deref_mut.ensures.value ∙ c.in_ok-chosen.ensures

pub returns-clause-size : goal.returns-clause-size
returns-clause-size c =
    ap length (written_back c.choose_all.new.chosen c.in_ok-chosen.chosen.items
    c.in_ok-chosen.chosen.len (c.choose_all.auto.chosen ∙ c.deref_mut.ensures.len))
    ∙ c.choose_all.auto.chosen
    ∙ ap length (c.deref_mut.ensures.value ∙ c.in_ok-chosen.ensures)
    ∙ length-replicate (length c.args.patterns.now) None

pub returns-clause-chosen : goal.returns-clause-chosen
returns-clause-chosen c =
    subst (AreChosen c.args.old.now.commands c.args.new.now.commands c.args.heads.now
    c.args.patterns.now 33)
    (sym (written_back c.choose_all.new.chosen c.in_ok-chosen.chosen.items
    c.in_ok-chosen.chosen.len (c.choose_all.auto.chosen ∙ c.deref_mut.ensures.len)))
    c.in_ok-choose_all.ensures
