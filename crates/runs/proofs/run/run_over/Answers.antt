use Rattle.std.proofs.lemmas.Result.{err_from_is_err_and}
use Rattle.gk_protocol.specs.CoreAnswers.{MayAnswer}
use Rattle.runs.specs.Run.{OpensWithin}
use Rattle.std.proofs.Common.{ap, ◌∙◌}
use Rattle.gk_lines.specs.LineReader.{LineReaderParts}
use Rattle.runs.proofs.RunLemmas.{run_serves, run_refuses, run_lacks, noted_then, turns_within}
use Rattle.runs.proofs.run.run_over.Goals as goal
use Rattle.std.specs.Prelude.{Ok, Err}

pub returns-clause-written : goal.returns-clause-written
returns-clause-written g c =
    run_serves MayAnswer (OpensWithin c.args.limits) _ c.new-lines.result
    c.read_configuration.new.lines _ _ _ _ _ _ _ _ _ (Ok c.in_ok-replies.replies)
    c.new-lines.ensures c.in_ok-commands.ensures.read (c.new-core.ensures ∙ c.in_ok-core.ensures.opened)
    c.let_go.ensures (rw c.in_ok-replies.was at c.session_from-result.ensures.written)

pub returns-in_err-commands-clause-written : goal.returns-in_err-commands-clause-written
returns-in_err-commands-clause-written g c =
    let p = err_from_is_err_and c.from_residual.result c.from_residual.ensures.1 in
    rw (p.1, p.2)
    (run_refuses MayAnswer (OpensWithin c.args.limits) _ c.new-lines.result
    c.read_configuration.new.lines _ _ _ c.in_err-commands.field-0.0 c.new-lines.ensures
    c.in_err-commands.ensures.read c.in_err-commands.ensures.part_read)

pub returns-in_err-core-clause-written : goal.returns-in_err-core-clause-written
returns-in_err-core-clause-written g c =
    let p = err_from_is_err_and c.from_residual-in_err-core.result
    c.from_residual-in_err-core.ensures.1 in
    rw (p.1, p.2)
    (run_lacks MayAnswer (OpensWithin c.args.limits) _ c.new-lines.result
    c.read_configuration.new.lines _ _ _ _ c.in_err-core.field-0.0 c.new-lines.ensures
    c.in_ok-commands.ensures.read c.in_err-core.ensures.fault)

pub returns-in_err-replies-clause-written : goal.returns-in_err-replies-clause-written
returns-in_err-replies-clause-written g c =
    let p = err_from_is_err_and c.from_residual-in_err-replies.result
    c.from_residual-in_err-replies.ensures.1 in
    rw (p.1, p.2)
    (run_serves MayAnswer (OpensWithin c.args.limits) _ c.new-lines.result
    c.read_configuration.new.lines _ _ _ _ _ _ _ _ _ (Err c.in_err-replies.field-0.0)
    c.new-lines.ensures c.in_ok-commands.ensures.read (c.new-core.ensures ∙ c.in_ok-core.ensures.opened)
    c.let_go.ensures (rw c.in_err-replies.was at c.session_from-result.ensures.written))

pub returns-in_err-replies-clause-reader_noted : goal.returns-in_err-replies-clause-reader_noted
returns-in_err-replies-clause-reader_noted g c =
    let p = err_from_is_err_and c.from_residual-in_err-replies.result
    c.from_residual-in_err-replies.ensures.1 in
    rw (p.1, p.2) (noted_then _ _ _ _ c.in_ok-commands.ensures.noted
    c.in_err-replies.ensures.reader_noted)

pub returns-in_err-replies-clause-writer_noted : goal.returns-in_err-replies-clause-writer_noted
returns-in_err-replies-clause-writer_noted g c =
    let p = err_from_is_err_and c.from_residual-in_err-replies.result
    c.from_residual-in_err-replies.ensures.1 in
    rw (p.1, p.2) c.in_err-replies.ensures.writer_noted

pub returns-clause-turns : goal.returns-clause-turns
returns-clause-turns g c =
    turns_within _ _ _ _ _ _ 4294967295 (ap (λ (l : LineReaderParts). l.turns) c.new-lines.ensures)
    c.in_ok-commands.ensures.turns c.in_ok-replies.ensures.turns
