use Rattle.std.proofs.Common.{◌∙◌, List, ap, sym}
use Rattle.std.specs.Prelude.{slice_get, option_and_then}
use Rattle.call_rows.specs.declared.steps.Step.{Step}
use Rattle.call_rows.specs.Rows.{SnapshotParts, is_row}
use Rattle.call_rows.specs.SnapshotIndex.{if_row, row_told, rows_told}
use Rattle.call_rows.proofs.ToldLemmas.{told_if}
use Rattle.call_rows.proofs.snapshots.Snapshot.row.Goals as goal

pub returns-in-Some : goal.returns-in-Some
returns-in-Some c =
    let was = c.self.inside in
    let items = was.admissions.items in
    c.row_of.ensures
    ∙ ap (option_and_then (λ (s : Step). option_and_then if_row (row_told items s)))
    c.in-Some.ensures
    ∙ ap (λ (ss : List Step). option_and_then
    (λ (s : Step). option_and_then if_row (row_told items s)) (slice_get ss c.args.place))
    c.deref.ensures.value
    ∙ told_if (row_told items) is_row was.steps.items (rows_told items was.steps.items)
    c.self.invariant.told c.self.invariant.sound c.args.place
    ∙ ap (λ (s : SnapshotParts). slice_get s.rows c.args.place) c.self.view_is

pub returns-in-None : goal.returns-in-None
returns-in-None c =
    let was = c.self.inside in
    let items = was.admissions.items in
    ap (option_and_then (λ (s : Step). option_and_then if_row (row_told items s)))
    c.in-None.ensures
    ∙ ap (λ (ss : List Step). option_and_then
    (λ (s : Step). option_and_then if_row (row_told items s)) (slice_get ss c.args.place))
    c.deref.ensures.value
    ∙ told_if (row_told items) is_row was.steps.items (rows_told items was.steps.items)
    c.self.invariant.told c.self.invariant.sound c.args.place
    ∙ ap (λ (s : SnapshotParts). slice_get s.rows c.args.place) c.self.view_is
