use Rattle.std.specs.Prelude.{Ok}
use Rattle.std.proofs.lemmas.Result.{err_from_is_err_and}
use Rattle.gk_terms.specs.Text.{content_of}
use Rattle.gk_protocol.specs.declared.request_lines.Heard.TheVariants as heard
use Rattle.gk_protocol.specs.Hearing.{Hears}
use Rattle.gk_protocol.specs.declared.sessions.Progress.TheVariants.{Answered}
use Rattle.gk_protocol.specs.declared.answers.Answer.TheVariants.{Malformed}
use Rattle.gk_protocol.specs.LineOwners.{request_with, lines_without_memory}
use Rattle.gk_protocol.proofs.AskedLemmas.{answered_by_itself, answered_fault, by_itself, owner_unread}
use Rattle.gk_protocol.proofs.sessions.progress_with.Goals as goal

pub returns-in-Ok-Answered-clause-progress : goal.returns-in-Ok-Answered-clause-progress
returns-in-Ok-Answered-clause-progress g c =
    let line = content_of c.args.line.now in
    let arm = c.in-Ok-Answered in
    let told : Hears g.A.Answerer.may_answer c.args.answerer.now c.content.result.now
    (Ok heard.Answered) c.hear.new.reply.text c.hear.new.answerer = rw (arm.field-0-is) at
    arm.ensures in
    by_itself g.A.Answerer.may_answer _ c.args.lines.now.ended c.args.answerer.now
    c.hear.new.answerer line _ (Ok Answered)
    (answered_by_itself g.A.Answerer.may_answer c.args.answerer.now c.hear.new.answerer line
    c.hear.new.reply.text (rw c.content.ensures at told))

pub returns-in_err-taken-in-Ok-Owns-clause-progress
    : goal.returns-in_err-taken-in-Ok-Owns-clause-progress
returns-in_err-taken-in-Ok-Owns-clause-progress g c =
    let p = err_from_is_err_and c.from_residual.result c.from_residual.ensures.1 in
    let line = content_of c.args.line.now in
    let arm = c.in-Ok-Owns in
    let told : Hears g.A.Answerer.may_answer c.args.answerer.now c.content.result.now
    (Ok (heard.Owns arm.owner arm.count)) c.hear.new.reply.text c.hear.new.answerer =
    rw (arm.field-0-is) at arm.ensures in
    let asks : Hears g.A.Answerer.may_answer c.args.answerer.now line
    (Ok (heard.Owns arm.owner arm.count)) c.hear.new.reply.text c.hear.new.answerer =
    rw c.content.ensures at told in
    rw (p.1, p.2, asks.1)
    (owner_unread g.A.Answerer.may_answer _ _ _ _ c.args.answerer.now line
    c.hear.new.reply.text arm.count (request_with arm.owner) (lines_without_memory arm.owner)
    c.in_err-taken-in-Ok-Owns.field-0.0 asks.0 c.in_err-taken-in-Ok-Owns.ensures.taken)

pub returns-in-Err-clause-progress : goal.returns-in-Err-clause-progress
returns-in-Err-clause-progress g c =
    let line = content_of c.args.line.now in
    let fault = c.in-Err.fault in
    by_itself g.A.Answerer.may_answer _ c.args.lines.now.ended c.args.answerer.now
    c.hear.new.answerer line _ (Ok Answered) (
      Malformed fault,
      c.show_fault.ensures,
      answered_fault g.A.Answerer.may_answer
          c.args.answerer.now c.hear.new.answerer line c.hear.new.reply.text fault
          (rw c.content.ensures at c.in-Err.ensures),
    )
