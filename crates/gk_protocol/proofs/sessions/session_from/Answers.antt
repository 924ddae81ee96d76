use Rattle.std.proofs.Common.{◌∙◌, refl, arith}
use Rattle.std.proofs.lemmas.Result.{err_from_is_err_and}
use Rattle.gk_lines.proofs.PendingLemmas.{turns_then}
use Rattle.gk_protocol.proofs.SessionLemmas.{session_begins, session_answers, session_passes, session_ends, session_stops, session_stops_within, session_cut, session_cut_short, session_lost}
use Rattle.gk_protocol.proofs.sessions.session_from.Goals as goal

pub loop-reply-preserved : goal.loop-reply-preserved
loop-reply-preserved g c = record {
  counted = omega (
    arith,
    c.loop-reply.invariant.counted,
    c.in_ok-next_line.ensures.progress
        c.if-branch.true,
    c.progress_with.ensures.work,
  );
  ended = c.progress_with.ensures.ended;
  under_way = session_answers g.A.Answerer.may_answer _ _ _ _ _ _ _ _ _ _ _ _ _ _ _ _
      (c.in_ok-next_line.ensures.unended_line c.if-branch.true) c.loop-reply.invariant.under_way
      (c.in_ok-next_line.ensures.line c.if-branch.true)
      (rw c.in-Answered.is at c.in_ok-progress_with.ensures.progress)
      c.in_ok-send-in-Answered.ensures.whole;
  turns = turns_then _ _ _ _ _ _ (turns_then _ _ _ _ _ _ c.loop-reply.invariant.turns
      c.next_line.ensures.turns) c.progress_with.ensures.turns;
  reader_noted = c.in_ok-progress_with.ensures.noted ∙ c.in_ok-next_line.ensures.noted ∙
      c.loop-reply.invariant.reader_noted;
  writer_noted = c.in_ok-send-in-Answered.ensures.noted ∙ c.loop-reply.invariant.writer_noted;
}

pub loop-reply-preserved-in-Blank : goal.loop-reply-preserved-in-Blank
loop-reply-preserved-in-Blank g c = record {
  counted = omega (
    arith,
    c.loop-reply.invariant.counted,
    c.in_ok-next_line.ensures.progress
        c.if-branch.true,
    c.progress_with.ensures.work,
  );
  ended = c.progress_with.ensures.ended;
  under_way = session_passes g.A.Answerer.may_answer _ _ _ _ _ _ _ _ _ _ _ _ _ _ _
      (c.in_ok-next_line.ensures.unended_line c.if-branch.true) c.loop-reply.invariant.under_way
      (c.in_ok-next_line.ensures.line c.if-branch.true)
      (rw c.in-Blank.is at c.in_ok-progress_with.ensures.progress);
  turns = turns_then _ _ _ _ _ _ (turns_then _ _ _ _ _ _ c.loop-reply.invariant.turns
      c.next_line.ensures.turns) c.progress_with.ensures.turns;
  reader_noted = c.in_ok-progress_with.ensures.noted ∙ c.in_ok-next_line.ensures.noted ∙
      c.loop-reply.invariant.reader_noted;
  writer_noted = c.loop-reply.invariant.writer_noted;
}

pub returns-clause-written : goal.returns-clause-written
returns-clause-written g c =
    let ended = c.in_ok-next_line.ensures in
    session_ends g.A.Answerer.may_answer _ _ _ _ _ _ _ _ _ _ c.loop-reply.invariant.under_way
    (ended.nothing_taken c.if-branch.false) (ended.none_pending c.if-branch.false)
    (ended.none_to_read c.if-branch.false)

pub returns-in_err-next_line-clause-written : goal.returns-in_err-next_line-clause-written
returns-in_err-next_line-clause-written g c =
    let p = err_from_is_err_and c.from_residual.result c.from_residual.ensures.1 in
    rw (p.1, p.2)
    (session_stops g.A.Answerer.may_answer _ _ _ _ _ _ _ _ _ _ c.in_err-next_line.field-0.0
    c.in_err-next_line.ensures.unended c.loop-reply.invariant.under_way
    c.in_err-next_line.ensures.part c.in_err-next_line.ensures.part_read)

pub returns-in_err-progress_with-clause-written : goal.returns-in_err-progress_with-clause-written
returns-in_err-progress_with-clause-written g c =
    let p = err_from_is_err_and c.from_residual-in_err-progress_with.result
    c.from_residual-in_err-progress_with.ensures.1 in
    rw (p.1, p.2)
    (session_stops_within g.A.Answerer.may_answer _ _ _ _ _ _ _ _ _
    c.progress_with.new.reply.text _ _ _
    _ _ _ c.in_err-progress_with.field-0.0 (c.in_ok-next_line.ensures.unended_line
    c.if-branch.true) c.loop-reply.invariant.under_way
    (c.in_ok-next_line.ensures.line c.if-branch.true) c.in_err-progress_with.ensures.progress
    c.in_err-progress_with.ensures.part_read)

pub returns-in-CutShort-clause-written : goal.returns-in-CutShort-clause-written
returns-in-CutShort-clause-written g c =
    let none = (rw c.in-CutShort.is at c.in_ok-progress_with.ensures.nothing_left) refl in
    session_cut_short g.A.Answerer.may_answer _ _ _ _ _ _ _ _ _ _ _ _ _ _ _ _ _
    (c.in_ok-next_line.ensures.unended_line c.if-branch.true) c.loop-reply.invariant.under_way
    (c.in_ok-next_line.ensures.line c.if-branch.true)
    (rw c.in-CutShort.is at c.in_ok-progress_with.ensures.progress) none.0 none.1
    c.in_ok-send-in-CutShort.ensures.whole

pub returns-in_err-send-in-CutShort-clause-written
    : goal.returns-in_err-send-in-CutShort-clause-written
returns-in_err-send-in-CutShort-clause-written g c =
    let p = err_from_is_err_and c.from_residual-in_err-send-in-CutShort.result
    c.from_residual-in_err-send-in-CutShort.ensures.1 in
    rw (p.1, p.2)
    (session_lost g.A.Answerer.may_answer _ _ _ _ _ _ _ _ _ _ _ _ _ _ _ _ _
    (c.in_ok-next_line.ensures.unended_line c.if-branch.true) c.loop-reply.invariant.under_way
    (c.in_ok-next_line.ensures.line c.if-branch.true)
    (rw c.in-CutShort.is at c.in_ok-progress_with.ensures.progress)
    c.in_err-send-in-CutShort.ensures.front)

pub returns-in_err-send-in-Answered-clause-written
    : goal.returns-in_err-send-in-Answered-clause-written
returns-in_err-send-in-Answered-clause-written g c =
    let p = err_from_is_err_and c.from_residual-in_err-send-in-Answered.result
    c.from_residual-in_err-send-in-Answered.ensures.1 in
    rw (p.1, p.2)
    (session_cut g.A.Answerer.may_answer _ _ _ _ _ _ _ _ _ _ _ _ _ _ _ _ _
    (c.in_ok-next_line.ensures.unended_line c.if-branch.true) c.loop-reply.invariant.under_way
    (c.in_ok-next_line.ensures.line c.if-branch.true)
    (rw c.in-Answered.is at c.in_ok-progress_with.ensures.progress)
    c.in_err-send-in-Answered.ensures.front)

pub loop-reply-init : goal.loop-reply-init
loop-reply-init g c = record {
  counted = omega arith;
  ended = c.requires;
  under_way = session_begins g.A.Answerer.may_answer _ _ _ _;
  turns = λ _. refl;
  reader_noted = refl;
  writer_noted = refl;
}
