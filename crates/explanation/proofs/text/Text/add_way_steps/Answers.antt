use Rattle.std.proofs.Common.{◌++◌, ap, sym, ◌∙◌}
use Rattle.std.specs.Prelude.{codes}
use Rattle.explanation.specs.Telling.{name_of, step_line, way_steps}
use Rattle.explanation.proofs.WordLemmas.{ok_then}
use Rattle.explanation.proofs.text.Text.add_way_steps.Goals as goal

pub returns-in-HopOff : goal.returns-in-HopOff
returns-in-HopOff c =
    let said = c.args.said.now in
    ok_then c.step.result c.step.ensures
    (λ is. is
    ∙ ap (λ zone. c.args.self.now ++ step_line (codes "hop-off zone") zone) c.name_of.ensures
    ∙ ap (λ way. c.args.self.now
    ++ way_steps c.args.commands.now said.digits said.technology (name_of said.reached) way)
    (sym c.in-HopOff.is))
