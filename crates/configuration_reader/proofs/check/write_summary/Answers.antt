use Rattle.std.proofs.Common.{length, ap, ◌∙◌}
use Rattle.gk_terms.specs.Text.{line_text}
use Rattle.configuration_reader.specs.Check.{summary_words, summary_text}
use Rattle.configuration_reader.proofs.CheckLemmas.{front_of_same}
use Rattle.configuration_reader.proofs.check.write_summary.Goals as goal

pub returns-clause-front : goal.returns-clause-front
returns-clause-front g c =
    front_of_same c.write_whole.result _ _ c.as_bytes.result.now (summary_text c.args.commands.now)
    (c.as_bytes.ensures ∙ c.show_summary.ensures
    ∙ ap (λ n. line_text (summary_words n c.passed.result)) c.len.ensures.count
    ∙ ap (λ n. line_text (summary_words (length c.args.commands.now.commands) n)) c.passed.ensures)
    c.write_whole.ensures.front
