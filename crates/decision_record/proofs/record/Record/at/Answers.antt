use Rattle.std.proofs.Common.{ap, ◌∙◌}
use Rattle.std.specs.Prelude.{slice_get}
use Rattle.decision_record.specs.History.{RecordParts}
use Rattle.decision_record.proofs.StoredLemmas.{read_at, right_at}
use Rattle.decision_record.proofs.record.Record.at.Goals as goal

pub entry_at-requires : goal.entry_at-requires
entry_at-requires c = right_at _ _ _ _ c.self.invariant.0 c.args.place

pub returns : goal.returns
returns c =
    c.entry_at.ensures ∙ read_at _ _ _ _ c.self.invariant.0 c.args.place
    ∙ ap (λ (h : RecordParts). slice_get h.entries c.args.place) c.self.view_is
