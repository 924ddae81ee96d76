use Rattle.std.proofs.Common.{◌≡◌, ap, sym, subst, ◌∙◌, None, Some}
use Rattle.gk_commands.specs.Configuration.{Configuration}
use Rattle.gk_commands.specs.Zones.{zones_of}
use Rattle.compiler.specs.Technology.{technology_of, hopoffs_of}
use Rattle.compiler.specs.TablesIndex.{best_number}
use Rattle.compiler.proofs.PlanLemmas.{plan_without_technology}
use Rattle.compiler.proofs.TableLemmas.{index_longest_none, index_longest, index_hopoff}
use Rattle.compiler.proofs.tables.Tables.plan.Goals as goal

pub plan_by_technology-requires-clause-found : goal.plan_by_technology-requires-clause-found
plan_by_technology-requires-clause-found c =
    subst (λ (configuration : Configuration). technology_of configuration.commands c.args.digits.now
    ≡ Some c.in-Some.found.0)
    c.self.view_is
    (index_longest c.self.invariant c.args.digits.now c.in-Some.found.0
    c.in-Some.found.1
    (rw c.as_bytes.ensures.spells at c.in-Some.ensures))

pub plan_by_technology-requires-clause-hopoff : goal.plan_by_technology-requires-clause-hopoff
plan_by_technology-requires-clause-hopoff c =
    subst (λ (configuration : Configuration). c.in-Some.found.1
    ≡ best_number (zones_of configuration.commands)
    (hopoffs_of configuration.commands c.in-Some.found.0))
    c.self.view_is
    (index_hopoff c.self.invariant c.args.digits.now c.in-Some.found.0
    c.in-Some.found.1
    (rw c.as_bytes.ensures.spells at c.in-Some.ensures))

pub returns-in-None : goal.returns-in-None
returns-in-None c =
    c.plan_by_row.ensures
    ∙ ap (λ target. Some target)
    (sym (plan_without_technology c.args.self.now.commands c.args.digits.now
    (subst (λ (configuration : Configuration). technology_of configuration.commands
    c.args.digits.now ≡ None)
    c.self.view_is
    (index_longest_none c.self.invariant c.args.digits.now
    (rw c.as_bytes.ensures.spells at c.in-None.ensures)))))
