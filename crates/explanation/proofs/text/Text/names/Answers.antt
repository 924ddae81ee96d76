use Rattle.std.proofs.Common.{◌++◌, ◌∷◌, take, ap, ◌∙◌}
use Rattle.explanation.specs.Lists.{with_words}
use Rattle.explanation.proofs.WordLemmas.{names_more}
use Rattle.explanation.proofs.text.Text.names.Goals as goal

pub loop-name-preserved : goal.loop-name-preserved
loop-name-preserved c =
    c.in_ok-word.ensures
    ∙ ap (λ text. text ++ 32 ∷ c.as_bytes.result.now) c.loop-name.invariant
    ∙ ap (λ name. with_words c.args.self.now (take c.loop-name.name-index c.args.names.now)
    ++ 32 ∷ name) (c.as_bytes.ensures.spells ∙ c.name-item.is)
    ∙ names_more c.args.self.now c.args.names.now c.loop-name.name-index c.name-item.result
    c.loop-name-test.true
