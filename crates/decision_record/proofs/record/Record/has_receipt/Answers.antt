use Rattle.std.proofs.Common.{◌≡◌, true, Some, ap, subst, ◌∙◌}
use Rattle.std.specs.Prelude.{◌↔◌, slice_get, Option}
use Rattle.std.specs.Option.{option_map}
use Rattle.entry_bytes.specs.Entry.{PlainEntry}
use Rattle.decision_record.specs.History.{RecordParts, receipt_of}
use Rattle.decision_record.proofs.StoredLemmas.{known_at, read_at}
use Rattle.decision_record.proofs.record.Record.has_receipt.Goals as goal

pub is_at-requires : goal.is_at-requires
is_at-requires c = known_at _ _ _ _ c.self.invariant.0 c.args.place

pub returns : goal.returns
returns c =
    subst (λ (o : Option PlainEntry). (c.is_at.result ≡ true) ↔ (Some c.args.receipt.now
    ≡ option_map (receipt_of c.args.receipt.now.number) o))
    (read_at _ _ _ _ c.self.invariant.0 c.args.place
    ∙ ap (λ (h : RecordParts). slice_get h.entries c.args.place) c.self.view_is)
    c.is_at.ensures
