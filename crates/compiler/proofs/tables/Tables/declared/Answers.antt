use Rattle.std.proofs.Common.{◌≡◌, sym, subst, None, Some}
use Rattle.gk_commands.specs.Configuration.{Configuration}
use Rattle.compiler.specs.Technology.{technology_of}
use Rattle.compiler.proofs.TableLemmas.{index_longest_none, index_longest}
use Rattle.compiler.proofs.tables.Tables.declared.Goals as goal

pub returns-in-None : goal.returns-in-None
returns-in-None c =
    sym (subst (λ (configuration : Configuration). technology_of configuration.commands
    c.args.digits.now ≡ None)
    c.self.view_is
    (index_longest_none c.self.invariant c.args.digits.now
    (rw c.as_bytes.ensures.spells at c.in-None.ensures)))

pub returns-in-Some : goal.returns-in-Some
returns-in-Some c =
    sym (subst (λ (configuration : Configuration). technology_of configuration.commands
    c.args.digits.now ≡ Some c.in-Some.found.0)
    c.self.view_is
    (index_longest c.self.invariant c.args.digits.now c.in-Some.found.0
    c.in-Some.found.1
    (rw c.as_bytes.ensures.spells at c.in-Some.ensures)))
