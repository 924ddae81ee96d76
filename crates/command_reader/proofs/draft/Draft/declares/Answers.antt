use Rattle.std.proofs.Common.{sym, ap, ◌∙◌}
use Rattle.gk_commands.specs.Zones.{is_declared}
use Rattle.command_reader.proofs.one_by_one.NumberLemmas.{held_commands}
use Rattle.command_reader.proofs.draft.Draft.declares.Goals as goal

pub returns : goal.returns
returns c =
    let same = held_commands c.self.inside.kept.numbers.items _ _ _ c.self.invariant.0
    c.self.view_is in
    (rw c.name.ensures at c.contains.ensures) ∙ c.self.invariant.2.same c.args.name.now ∙ ap
    (λ cs. is_declared cs c.args.name.now) (sym same)
