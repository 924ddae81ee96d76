use Rattle.std.proofs.Common.{take, ap, ◌∙◌}
use Rattle.std.specs.Prelude.{flat_map}
use Rattle.gk_lines.specs.LineBuffer.{with_words}
use Rattle.gk_commands.specs.Printing.{further_words}
use Rattle.command_reader.proofs.CanonicalLemmas.{further_more}
use Rattle.command_reader.proofs.canonical_lines.add_further_hopoffs.Goals as goal

pub loop-name-preserved : goal.loop-name-preserved
loop-name-preserved c =
    c.add_further_hopoff.ensures ∙ ap (λ line. with_words line (further_words c.name-item.result))
    c.loop-name.invariant
    ∙ ap (λ name. with_words (with_words c.args.line.now
    (flat_map further_words (take c.loop-name.name-index c.args.names.now)))
    (further_words name)) c.name-item.is
    ∙ further_more further_words c.args.line.now c.args.names.now c.loop-name.name-index
    c.name-item.result c.loop-name-test.true
