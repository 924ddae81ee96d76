use Rattle.std.proofs.Common.{◌∙◌, ◌-◌, List, ap, length, sym}
use Rattle.std.specs.Prelude.{slice_get}
use Rattle.call_rows.specs.declared.steps.Step.{Step}
use Rattle.call_rows.specs.Pushing.{last_number}
use Rattle.call_rows.specs.Rows.{SnapshotParts}
use Rattle.call_rows.specs.SnapshotIndex.{rows_told}
use Rattle.call_rows.proofs.KeptLemmas.{last_told}
use Rattle.call_rows.proofs.snapshots.Snapshot.last_number.Goals as goal

pub returns-in-Some : goal.returns-in-Some
returns-in-Some c =
    let was = c.self.inside in
    let items = was.admissions.items in
    let there = sym (ap (λ (ss : List Step). slice_get ss (length ss - 1)) c.deref.ensures.value)
    ∙ sym c.in-Some.ensures.value in
    c.number.ensures
    ∙ sym (last_told items was.steps.items (rows_told items was.steps.items) c.in-Some.step.now
    c.self.invariant.told there)
    ∙ ap (λ (s : SnapshotParts). last_number s.rows) c.self.view_is
