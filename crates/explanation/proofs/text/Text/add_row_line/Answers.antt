use Rattle.std.proofs.Common.{◌++◌, ◌∷◌, ap, ◌∙◌}
use Rattle.std.specs.Prelude.{codes}
use Rattle.digit_patterns.specs.Pattern.{pattern_text}
use Rattle.gk_commands.specs.Printing.{gateway_words}
use Rattle.explanation.proofs.WordLemmas.{ok_then, row_said}
use Rattle.explanation.proofs.text.Text.add_row_line.Goals as goal

pub returns : goal.returns
returns c =
    ok_then c.gateways.result c.gateways.ensures
    (row_said c.args.self.now c.add.new.self c.word.new.self c.word-2.new.self c.pattern.new.self
    c.gateways.new.self (codes "zone") (codes "prefix") c.args.zone.now
    (pattern_text c.args.pattern.now) (gateway_words c.args.gateways.now)
    c.in_ok-add.ensures c.in_ok-word.ensures
    (c.in_ok-word-2.ensures ∙ ap (λ word. c.word.new.self ++ 32 ∷ word) c.as_bytes.ensures.spells)
    c.in_ok-pattern.ensures)
