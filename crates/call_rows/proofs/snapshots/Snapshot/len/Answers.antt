use Rattle.std.proofs.Common.{◌≤◌, length, map, arith, ap}
use Rattle.call_rows.specs.SnapshotIndex.{row_told, rows_told}
use Rattle.call_rows.proofs.RowLemmas.{few_admissions, few_rows}
use Rattle.call_rows.proofs.ToldLemmas.{as_many}
use Rattle.call_rows.proofs.snapshots.Snapshot.len.Goals as goal

pub returns-clause-few : goal.returns-clause-few
returns-clause-few c =
    let was = c.self.inside in
    let rows = rows_told was.admissions.items was.steps.items in
    let few = few_rows rows c.self.invariant.in_order in
    let many = as_many (row_told was.admissions.items) was.steps.items rows c.self.invariant.told in
    let admitted = ap length c.self.invariant.admitted in
    let fewer = few_admissions rows in
    omega (arith, few, many, c.len.ensures)
