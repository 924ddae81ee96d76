use Rattle.std.proofs.Common.{take, ap, ◌∙◌}
use Rattle.std.specs.Prelude.{flat_map}
use Rattle.gk_commands.specs.Printing.{further_words}
use Rattle.explanation.specs.Lists.{with_words}
use Rattle.explanation.proofs.WordLemmas.{further_more}
use Rattle.explanation.proofs.text.Text.further_hopoffs.Goals as goal

pub loop-name-preserved : goal.loop-name-preserved
loop-name-preserved c =
    c.in_ok-further_hopoff.ensures
    ∙ ap (λ text. with_words text (further_words c.name-item.result)) c.loop-name.invariant
    ∙ ap (λ name. with_words (with_words c.args.self.now
    (flat_map further_words (take c.loop-name.name-index c.args.names.now)))
    (further_words name)) c.name-item.is
    ∙ further_more further_words c.args.self.now c.args.names.now c.loop-name.name-index
    c.name-item.result c.loop-name-test.true
