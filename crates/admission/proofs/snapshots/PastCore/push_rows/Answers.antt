use Rattle.std.proofs.Common.{refl, sym, ◌∙◌, arith}
use Rattle.std.proofs.lemmas.Result.{err_from_is_err_and}
use Rattle.admission.proofs.RowHistoryLemmas.{row_put, none_put, only_memory}
use Rattle.admission.proofs.snapshots.PastCore.push_rows.Goals as goal
use Rattle.admission.proofs.snapshots.PastCore.push_rows.Goals.{in-Some+in_ok-push, in_default}

pub returns-in_err-push-clause-err : goal.returns-in_err-push-clause-err
returns-in_err-push-clause-err c =
    let core = c.args.self.now in
    let p = err_from_is_err_and c.from_residual.result c.from_residual.ensures.1 in
    rw (p.1, p.2)
    (only_memory core.opening core.entries c.loop-place.place _ refl
    (omega (arith, c.loop-place-test.true, c.count-place-end.ensures.count))
    c.args.snapshot.now c.loop-place.snapshot c.loop-place.invariant c.count-place-end.ensures.legal
    c.count-place-end.ensures.bounded c.in-Some.row c.in-Some.ensures _ c.in_err-push.ensures.1)

pub loop-place-preserved : goal.loop-place-preserved
loop-place-preserved c =
    let core = c.args.self.now in
    elim c.match-row.branch [
      | in-Some+in_ok-push w ↦ rw w.snapshot-is
          (row_put core.opening core.entries c.loop-place.place _ refl
          (omega (arith, c.loop-place-test.true, c.count-place-end.ensures.count))
          c.args.snapshot.now c.loop-place.snapshot c.loop-place.invariant _ w.in-Some.row
          w.in-Some.ensures w.in_ok-push.ensures.1)
      | in_default w ↦ rw w.snapshot-is
          (none_put core.opening core.entries c.loop-place.place _ refl
          (omega (arith, c.loop-place-test.true, c.count-place-end.ensures.count))
          c.args.snapshot.now c.loop-place.snapshot c.loop-place.invariant
          (sym w.in_default.is ∙ c.row.ensures))
    ]
