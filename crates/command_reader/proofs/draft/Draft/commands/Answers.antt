use Rattle.std.proofs.Common.{sym, ◌∙◌}
use Rattle.command_reader.proofs.one_by_one.NumberLemmas.{held_commands}
use Rattle.command_reader.proofs.draft.Draft.commands.Goals as goal

pub returns : goal.returns
returns c = c.deref.ensures.value ∙ sym (held_commands c.self.inside.kept.numbers.items _ _ _
    c.self.invariant.0 c.self.view_is)
