use Rattle.std.proofs.Common.{◌≡◌, ◌⊎◌, ◌∷◌, Ok, Err, map, ap, ◌∙◌}
use Rattle.std.proofs.lemmas.Result.{err_from_is_err_and}
use Rattle.gk_terms.specs.Text.{lines_of, content_of}
use Rattle.gk_protocol.specs.declared.endpoint_files.EndpointsFaultKind.TheVariants.{NoMemory}
use Rattle.gk_protocol.specs.EndpointFiles.{line_added, MayLackMemory}
use Rattle.gk_protocol.proofs.EndpointFileLemmas.{one_added, one_refused}
use Rattle.gk_protocol.proofs.endpoint_files.read_endpoints.Goals as goal

pub returns-in_err-add_at_line : goal.returns-in_err-add_at_line
returns-in_err-add_at_line c =
    let text = content_of c.in-Some.raw.now in
    let fault = c.in_err-add_at_line.field-0.0 in
    let lines : lines_of c.loop-raw.raw-iterator ≡ text ∷ lines_of c.next.new.self =
    ap (map content_of) c.in-Some.ensures.steps in
    let refused : (fault.line ≡ c.saturating_add-line.result)
    × ((line_added c.args.tables.now.commands c.loop-raw.registry text ≡ Err fault.kind)
    ⊎ ((fault.kind ≡ NoMemory)
    × MayLackMemory c.args.tables.now.commands c.loop-raw.registry text)) =
    rw c.content.ensures at c.in_err-add_at_line.ensures in
    let p = err_from_is_err_and c.from_residual.result c.from_residual.ensures.1 in
    rw (p.1, p.2)
    (one_refused _ _ _ _ _ c.loop-raw.invariant text _ lines fault
    (refused.0 ∙ c.saturating_add-line.ensures) refused.1)

pub loop-raw-preserved : goal.loop-raw-preserved
loop-raw-preserved c =
    let text = content_of c.in-Some.raw.now in
    let lines : lines_of c.loop-raw.raw-iterator ≡ text ∷ lines_of c.next.new.self =
    ap (map content_of) c.in-Some.ensures.steps in
    let added : line_added c.args.tables.now.commands c.loop-raw.registry text
    ≡ Ok c.add_at_line.new.registry = rw c.content.ensures at c.in_ok-add_at_line.ensures in
    rw c.saturating_add-line.ensures
    (one_added _ _ _ _ _ c.loop-raw.invariant text _ lines c.add_at_line.new.registry added)
