use Rattle.std.proofs.Common.{sym, ap, subst, ◌∙◌, ◌≡◌}
use Rattle.gk_commands.specs.Accepted.{IsAccepted, IsPrintable}
use Rattle.gk_commands.specs.Configuration.{Configuration}
use Rattle.gk_commands.specs.Progress.{Progress, commands_in}
use Rattle.command_reader.proofs.read_back.File.{accepted_lines}
use Rattle.command_reader.proofs.one_by_one.NumberLemmas.{held_commands}
use Rattle.command_reader.proofs.draft.Draft.into_commands.Goals as goal

pub new-requires-clause-accepted : goal.new-requires-clause-accepted
new-requires-clause-accepted c =
    let same = held_commands c.self.inside.kept.numbers.items _ _ _ c.self.invariant.0
    c.self.view_is in
    subst IsAccepted same (accepted_lines c.args.self (subst IsPrintable (sym same)
    c.self.invariant.3) c.requires.declared c.requires.has_local)

-- both parts of a configuration
same_parts : (configuration : Configuration) (read : Progress) → configuration.commands ≡
    commands_in read → configuration.passed ≡ read.passed
    → configuration ≡ record { commands = commands_in read; passed = read.passed }
same_parts configuration read commands passed =
    ap (λ cs. record { commands = cs; passed = configuration.passed }) commands ∙ ap
    (λ n. record { commands = commands_in read; passed = n }) passed

pub returns : goal.returns
returns c =
    let same = held_commands c.self.inside.kept.numbers.items _ _ _ c.self.invariant.0
    c.self.view_is in
    same_parts c.new.result c.args.self (c.new.ensures.commands ∙ sym same)
    (c.new.ensures.passed ∙ ap (λ (read : Progress). read.passed) c.self.view_is)
