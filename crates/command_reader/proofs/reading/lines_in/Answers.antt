use Rattle.std.proofs.Common.{rules, ◌≡◌, ◌∷◌, Ok, Err, map, ap}
use Rattle.std.proofs.lemmas.Result.{err_from_is_err_and}
use Rattle.gk_terms.specs.Text.{lines_of, content_of}
use Rattle.gk_commands.specs.Reading.{MayReadLine}
use Rattle.command_reader.proofs.one_by_one.ReadOnLemmas.{one_line, refused_line, no_more_lines}
use Rattle.command_reader.proofs.reading.lines_in.Goals as goal

pub loop-line-init : goal.loop-line-init
loop-line-init c = rw (
  c.into_iter-line-iterator.ensures.into_iter_gives,
  c.of-line-items.ensures,
  c.keeping_lines-draft.ensures,
) (λ end said. said)

pub returns-in_err-read_line : goal.returns-in_err-read_line
returns-in_err-read_line c =
    let p = err_from_is_err_and c.from_residual.result c.from_residual.ensures.1 in
    let line = content_of c.in-Some.line.now in
    let lines : lines_of c.loop-line.line-iterator ≡ line ∷ lines_of c.next.new.self = ap
    (map content_of) c.in-Some.ensures.steps in
    let fault = c.in_err-read_line.field-0.0 in
    let refused : MayReadLine c.loop-line.draft line (Err fault) = search rules in
    rw (p.1, p.2) (c.loop-line.invariant (Err fault) (rw lines (refused_line _ _ _ fault refused)))

pub loop-line-preserved : goal.loop-line-preserved
loop-line-preserved c =
    let line = content_of c.in-Some.line.now in
    let lines : lines_of c.loop-line.line-iterator ≡ line ∷ lines_of c.next.new.self = ap
    (map content_of) c.in-Some.ensures.steps in
    let read : MayReadLine c.loop-line.draft line (Ok c.read_line.new.self) = search rules in
    λ end said. c.loop-line.invariant end (rw lines (one_line _ _ _ _ end read said))

pub returns : goal.returns
returns c = c.loop-line.invariant (Ok c.loop-line.draft)
    (rw (ap (map content_of) c.in-None.ensures.steps.0) (no_more_lines c.loop-line.draft))
