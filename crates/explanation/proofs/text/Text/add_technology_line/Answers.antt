use Rattle.std.proofs.Common.{◌++◌, ◌∷◌, ap, ◌∙◌}
use Rattle.std.specs.Prelude.{codes}
use Rattle.gk_commands.specs.Printing.{default_words, hopoff_words}
use Rattle.explanation.specs.Lists.{with_words}
use Rattle.explanation.proofs.WordLemmas.{line_said, ok_then}
use Rattle.explanation.proofs.text.Text.add_technology_line.Goals as goal

pub returns : goal.returns
returns c =
    ok_then c.options.result c.options.ensures
    (λ is. line_said c.args.self.now c.add.new.self c.word.new.self c.options.new.self
    (codes "gw-type-prefix") c.args.prefix.now
    (hopoff_words c.args.hopoffs.now ++ default_words c.args.is_default)
    c.in_ok-add.ensures
    (c.in_ok-word.ensures ∙ ap (λ word. c.add.new.self ++ 32 ∷ word) c.as_bytes.ensures.spells)
    (is ∙ ap (λ names.
    with_words c.word.new.self (hopoff_words names ++ default_words c.args.is_default))
    c.as_slice.ensures))
