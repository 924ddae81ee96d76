use Rattle.std.proofs.Common.{◌≡◌, Bool, true, false, ap, sym, ◌∙◌}
use Rattle.std.proofs.lemmas.Result.{err_from_is_err_and}
use Rattle.gk_terms.specs.Text.{content_of}
use Rattle.gk_lines.proofs.PendingLemmas.{turns_then}
use Rattle.configuration_reader.specs.Configuration.{ends_with}
use Rattle.configuration_reader.proofs.ConfigurationLemmas.{reading_goes_on, reading_ends, reading_decides, reading_runs_out, reading_stops}
use Rattle.configuration_reader.proofs.configuration.read_configuration.Goals as goal

pub loop-read-preserved : goal.loop-read-preserved
loop-read-preserved g c =
    let goes_on : ends_with c.args.until (content_of c.next_line.new.line) ≡ false =
    sym (ap (ends_with c.args.until) c.content-in-loop-read.ensures) ∙ sym c.is_last.ensures ∙
    c.if-is_last.false in
    record {
      ended = c.in_ok-next_line.ensures.ended;
      under_way = reading_goes_on _ _ _ c.next_line.new.line _ _
          (c.in_ok-next_line.ensures.unended_line c.if-branch.true)
          (rw c.content.ensures at c.with_line-read.ensures) _ _ _ c.loop-read.invariant.under_way
          (c.in_ok-next_line.ensures.line c.if-branch.true) goes_on;
      turns = turns_then _ _ _ _ _ _ c.loop-read.invariant.turns c.next_line.ensures.turns;
      noted = c.in_ok-next_line.ensures.noted ∙ c.loop-read.invariant.noted;
    }

pub returns-then-is_last-clause-read : goal.returns-then-is_last-clause-read
returns-then-is_last-clause-read g c =
    let ends : ends_with c.args.until (content_of c.next_line.new.line) ≡ true =
    sym (ap (ends_with c.args.until) c.content-in-loop-read.ensures) ∙ sym c.is_last.ensures ∙
    c.if-is_last.true in
    rw (c.conclude.ensures)
    (reading_ends _ _ _ c.next_line.new.line _ _ (c.in_ok-next_line.ensures.unended_line
    c.if-branch.true) (rw c.content.ensures at c.with_line-read.ensures) _ _ _
    c.loop-read.invariant.under_way (c.in_ok-next_line.ensures.line c.if-branch.true) ends)

pub returns-then-is_decided-clause-read : goal.returns-then-is_decided-clause-read
returns-then-is_decided-clause-read g c =
    rw (c.conclude-then-is_decided.ensures)
    (reading_decides _ _ _ c.next_line.new.line _ _ (c.in_ok-next_line.ensures.unended_line
    c.if-branch.true) (rw c.content.ensures at c.with_line-read.ensures) _ _ _
    c.loop-read.invariant.under_way (c.in_ok-next_line.ensures.line c.if-branch.true)
    (sym c.is_decided.ensures ∙ c.if-is_decided.true))

pub returns-clause-read : goal.returns-clause-read
returns-clause-read g c =
    let ended = c.in_ok-next_line.ensures in
    rw (c.conclude-2.ensures)
    (reading_runs_out _ _ _ _ _ _ c.loop-read.invariant.under_way
    (ended.nothing_taken c.if-branch.false) (ended.none c.if-branch.false))

pub returns-in_err-next_line-clause-read : goal.returns-in_err-next_line-clause-read
returns-in_err-next_line-clause-read g c =
    let p = err_from_is_err_and c.from_residual.result c.from_residual.ensures.1 in
    rw (p.1, p.2)
    (reading_stops _ _ _ c.in_err-next_line.field-0.0 _ _ _ c.in_err-next_line.ensures.unended
    c.loop-read.invariant.under_way c.in_err-next_line.ensures.part)
