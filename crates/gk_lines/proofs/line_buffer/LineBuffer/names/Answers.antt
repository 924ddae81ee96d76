use Rattle.std.proofs.Common.{◌∷◌, take, ap, ◌∙◌}
use Rattle.gk_lines.specs.LineBuffer.{extended, with_words}
use Rattle.gk_lines.proofs.LineBufferLemmas.{words_more}
use Rattle.gk_lines.proofs.line_buffer.LineBuffer.names.Goals as goal

pub loop-name-preserved : goal.loop-name-preserved
loop-name-preserved c =
    c.word.ensures ∙ ap (λ line. extended line (32 ∷ c.as_bytes.result.now)) c.loop-name.invariant
    ∙ ap (λ name. extended (with_words c.args.self.now (take c.loop-name.name-index
    c.args.names.now)) (32 ∷ name)) (c.as_bytes.ensures.spells ∙ c.name-item.is)
    ∙ words_more c.args.self.now c.args.names.now c.loop-name.name-index c.name-item.result
    c.loop-name-test.true
