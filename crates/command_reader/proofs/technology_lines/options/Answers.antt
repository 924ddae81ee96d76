use Rattle.std.proofs.Common.{refl, sym, inl}
use Rattle.std.proofs.lemmas.Result.{err_from_is_err_and}
use Rattle.command_reader.proofs.one_by_one.OptionLemmas.{none_held, more_options, bad_option}
use Rattle.command_reader.proofs.technology_lines.options.Goals as goal

pub loop-word-init : goal.loop-word-init
loop-word-init c = rw c.into_iter-word-iterator.ensures.into_iter_gives
    (none_held _ _ refl refl c.new.ensures)

pub returns-in_err-option : goal.returns-in_err-option
returns-in_err-option c =
    let p = err_from_is_err_and c.from_residual.result c.from_residual.ensures.1 in
    rw (p.1, p.2) (inl (bad_option _ _ _ _ _ (rw c.in-Some.ensures.steps at c.loop-word.invariant)
    (sym c.in_err-option.ensures)))

pub loop-word-preserved : goal.loop-word-preserved
loop-word-preserved c =
    more_options _ _ _ _ _ _ (rw c.in-Some.ensures.steps at c.loop-word.invariant)
    (sym c.in_ok-option.ensures) c.with-options.ensures
