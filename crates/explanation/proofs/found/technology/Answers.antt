use Rattle.std.proofs.Common.{ap, ◌∙◌}
use Rattle.compiler.specs.Technology.{longest_learned}
use Rattle.registry.specs.Learned.{learned_prefixes}
use Rattle.explanation.proofs.TechnologyLemmas.{declared_is, learned_is}
use Rattle.explanation.proofs.found.technology.Goals as goal

pub returns-in_default : goal.returns-in_default
returns-in_default c =
    let commands = c.args.tables.now.commands in
    let endpoints = c.args.registry.now.endpoints in
    declared_is commands endpoints c.args.digits.now c.declared-declared.result
    c.declared-declared.ensures
    (c.in_default.ensures
    ∙ ap (longest_learned (learned_prefixes commands endpoints) c.args.digits.now)
    c.length_of.ensures)

pub returns : goal.returns
returns c =
    let commands = c.args.tables.now.commands in
    let endpoints = c.args.registry.now.endpoints in
    learned_is commands endpoints c.args.digits.now c.in-Some.longer c.declared-declared.result
    c.declared-declared.ensures
    (c.in-Some.ensures
    ∙ ap (longest_learned (learned_prefixes commands endpoints) c.args.digits.now)
    c.length_of.ensures)
