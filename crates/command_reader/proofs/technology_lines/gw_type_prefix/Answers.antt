use Rattle.gk_terms.specs.Text.{words_of}
use Rattle.std.proofs.lemmas.Result.{err_from_is_err_and}
use Rattle.command_reader.proofs.one_by_one.OptionLemmas.{refused_options}
use Rattle.command_reader.proofs.technology_lines.gw_type_prefix.Goals as goal

pub returns-in_err-hopoffs : goal.returns-in_err-hopoffs
returns-in_err-hopoffs c =
    let p = err_from_is_err_and c.from_residual-in_err-hopoffs.result
    c.from_residual-in_err-hopoffs.ensures.1 in
    rw (p.1, p.2) (refused_options (words_of c.args.words.now) _ _ _ c.in_ok-prefix.ensures
    c.in_err-hopoffs.ensures)
