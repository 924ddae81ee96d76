use Rattle.std.proofs.Common.{sym, ◌∙◌, ltb-true, ltb-false, length-drop, arith}
use Rattle.gk_lines.specs.LineReader.{length_in_line}
use Rattle.gk_lines.proofs.LinesRead.{line_at_feed, line_at_end, line_goes_on, part_taken, still_left}
use Rattle.gk_lines.proofs.PendingLemmas.{turns_then, gave_then}
use Rattle.std.proofs.lemmas.Result.{err_from_is_err_and}
use Rattle.gk_lines.proofs.line_reader.LineReader.next_line.Goals as goal

pub returns-else-branch-clause-nothing_taken : goal.returns-else-branch-clause-nothing_taken
returns-else-branch-clause-nothing_taken g c =
    λ nothing. still_left _ _ _ _ _ c.loop-more.invariant.line c.fill.ensures.left nothing

pub returns-else-branch-clause-line : goal.returns-else-branch-clause-line
returns-else-branch-clause-line g c =
    let ended = c.in_ok-fill.ensures in
    line_at_end _ _ _ _ _ _ _ c.loop-more.invariant.line c.fill.ensures.left
    (ended.none_pending c.if-branch.false) (ended.none_to_read c.if-branch.false)
    (ended.none_left c.if-branch.false)

pub returns-then-take_part-clause-line : goal.returns-then-take_part-clause-line
returns-then-take_part-clause-line g c =
    let feed = ltb-true _ _ (sym c.take_part.ensures.ends ∙ c.if-take_part.true) in
    rw (c.take_part.ensures.taken, c.take_part.ensures.kept)
    (λ _. line_at_feed _ _ _ _ _ _ _ c.loop-more.invariant.line c.fill.ensures.left feed)

pub returns-in_err-fill-clause-part : goal.returns-in_err-fill-clause-part
returns-in_err-fill-clause-part g c =
    let p = err_from_is_err_and c.from_residual.result c.from_residual.ensures.1 in
    rw (p.1) (part_taken _ _ _ _ _ c.loop-more.invariant.line c.fill.ensures.left)

pub returns-in_err-fill-clause-turns_read : goal.returns-in_err-fill-clause-turns_read
returns-in_err-fill-clause-turns_read g c =
    let p = err_from_is_err_and c.from_residual.result c.from_residual.ensures.1 in
    rw (p.1, p.2) (gave_then _ _ _ _ _ _ c.loop-more.invariant.gave
    c.in_err-fill.ensures.turns_read)

pub loop-more-preserved : goal.loop-more-preserved
loop-more-preserved g c =
    let some = c.in_ok-fill.ensures.more c.if-branch.true in
    let past = ltb-false _ _ (sym c.take_part.ensures.ends ∙ c.if-take_part.false) in
    record {
      work = rw (c.take_part.ensures.turns, c.take_part.ensures.taken)
          (omega (
            arith,
            length-drop (length_in_line c.fill.new.self.pending)
                c.fill.new.self.pending,
          ));
      progress = λ _. rw (c.take_part.ensures.turns, c.take_part.ensures.taken)
          (omega (
            arith,
            some,
            length-drop (length_in_line c.fill.new.self.pending)
                c.fill.new.self.pending,
          ));
      ended = rw (c.take_part.ensures.same_end) c.fill.ensures.ended;
      unended_line = λ _. c.loop-more.invariant.stays_ended
          (c.in_ok-fill.ensures.unended_line c.if-branch.true);
      stays_ended = λ open_still. c.loop-more.invariant.stays_ended
          (c.fill.ensures.stays_ended (sym c.take_part.ensures.same_end ∙ open_still));
      line = rw (c.take_part.ensures.taken, c.take_part.ensures.kept)
          (line_goes_on _ _ _ _ _ _ c.loop-more.invariant.line c.fill.ensures.left some past);
      turns = rw (c.take_part.ensures.turns) (turns_then _ _ _ _ _ _ c.loop-more.invariant.turns
          c.fill.ensures.turns);
      gave = rw (c.take_part.ensures.turns) (gave_then _ _ _ _ _ _ c.loop-more.invariant.gave
          (c.in_ok-fill.ensures.turns_gave c.if-branch.true));
      noted = c.in_ok-fill.ensures.noted ∙ c.loop-more.invariant.noted;
    }
