use Rattle.std.proofs.Common.{◌∙◌, ◌+◌, ap, refl}
use Rattle.decision_record.specs.History.{CoreParts}
use Rattle.runs.proofs.RecordedLemmas.{row_more, rows_begin}
use Rattle.runs.proofs.recorded_rows.RecordedRowsRowSource.row_at.Goals as goal

pub returns-clause-next : goal.returns-clause-next
returns-clause-next c =
    let core = c.args.self.now in
    row_more core.opening core.entries c.record.result.now.entries
    (c.record.ensures.entries ∙ ap (λ (r : CoreParts). r.entries) c.self.view_is) c.args.place
    _ refl c.requires c.row.result c.row.ensures

pub returns-clause-rest : goal.returns-clause-rest
returns-clause-rest c =
    rows_begin c.args.self.now.opening c.args.self.now.entries (c.args.place + 1)
