use Rattle.explanation.proofs.text.Text.technology_step.Goals as goal

pub returns : goal.returns
returns c = c.step.ensures
