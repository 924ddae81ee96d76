use Rattle.std.proofs.Common.{sym, ap, ◌+◌, ◌∙◌, length, arith}
use Rattle.command_reader.proofs.one_by_one.NumberLemmas.{held_commands, held_count}
use Rattle.command_reader.proofs.draft.Draft.line_count.Goals as goal

pub returns-clause-count : goal.returns-clause-count
returns-clause-count c =
    let same = held_commands c.self.inside.kept.numbers.items _ _ _ c.self.invariant.0
    c.self.view_is in
    ap (λ commands. length commands + c.self.inside.passed) (c.commands.ensures ∙ same)
    ∙ sym (held_count c.self.inside.kept.numbers.items _ _ _ c.self.invariant.0 c.self.view_is)

pub returns-clause-within : goal.returns-clause-within
returns-clause-within c =
    let same = held_commands c.self.inside.kept.numbers.items _ _ _ c.self.invariant.0
    c.self.view_is in
    omega (arith, ap length (c.commands.ensures ∙ same), c.self.invariant.1)
