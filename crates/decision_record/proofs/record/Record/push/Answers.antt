use Rattle.std.proofs.Common.{◌≡◌, ◌-◌, ℕ, List, ◌++◌, [], ◌∷◌, length, refl, sym, ap, subst, ◌∙◌, arith}
use Rattle.std.specs.Prelude.{Option, Some, None, IsSome, IfSome}
use Rattle.std.specs.List.{cons_option}
use Rattle.std.specs.Arc.{arc_value}
use Rattle.entry_bytes.specs.Entry.{PlainEntry}
use Rattle.entry_bytes.specs.EntryBytes.{entry_in}
use Rattle.decision_record.specs.Drafts.{DraftParts, IsRight}
use Rattle.decision_record.specs.History.{RecordParts}
use Rattle.decision_record.specs.Items.{entries_told, room_in, IsStored, IsLastReload}
use Rattle.decision_record.proofs.StoredLemmas.{entry_stored, told_are}
use Rattle.decision_record.proofs.ReloadLemmas.{none_more}
use Rattle.decision_record.proofs.record.Record.push.Goals as goal

-- the entries before it
abbrev before : (c : goal.After-self-1) → List PlainEntry
before c = entries_told c.self.inside.log c.self.inside.reloads

-- what it is
abbrev written : (c : goal.After-self-1) → Option PlainEntry
written c = entry_in c.draft.inside.bytes.items

-- what is stored with it, and which tables are in force
abbrev Holds : (c : goal.After-self-1) → List PlainEntry → Type 0
Holds c entries =
    IsStored c.push.new.self c.self.inside.reloads entries (c.self.inside.kept - 1)
    × IsLastReload (arc_value c.self.inside.opening).commands c.self.inside.reloads.last entries

holds : (c : goal.After-self-1) → Holds c (before c ++ cons_option (written c) [])
holds c =
    by (written c) refl c.draft.invariant.right
    (subst IsSome (ap (λ (d : DraftParts). d.entry) (sym c.draft.view_is)) c.requires.written)
  where
    by : (o : Option PlainEntry) → written c ≡ o → IfSome o IsRight → IsSome o
        → Holds c (before c ++ cons_option o [])
    by None h right some = let impossible : ⊥ = cc in absurd impossible
    by (Some e) h right some = (
      entry_stored c.self.inside.log c.self.inside.reloads (before c) c.self.inside.kept
          c.self.invariant.0 c.draft.inside.bytes.items e c.push.new.self h
          right.endpoint
          (c.push.ensures.items
          ∙ ap (λ (item : List ℕ). c.self.inside.log.items ++ item ∷ []) c.deref.ensures.value)
          (omega (
            arith,
            c.push.ensures.room,
            ap length c.deref.ensures.value,
            ap (λ (d : DraftParts). d.bytes) c.draft.view_is,
            ap (λ (h : RecordParts). h.room) c.self.view_is,
            ap (λ (h : RecordParts). h.kept) c.self.view_is,
            c.requires.room,
          )),
      none_more (arc_value c.self.inside.opening).commands c.self.inside.reloads.last (before c)
          c.self.invariant.1 e right.other,
    )

-- so these are told
told : (c : goal.After-self-1)
    → entries_told c.push.new.self c.self.inside.reloads
    ≡ before c ++ cons_option (written c) []
told c = told_are _ _ _ _ (holds c).0

pub invariant_of-self : goal.invariant_of-self
invariant_of-self c = subst (Holds c) (sym (told c)) (holds c)

pub returns-clause-entered : goal.returns-clause-entered
returns-clause-entered c =
    let room : ℕ = room_in c.push.new.self c.self.inside.reloads in
    ap (λ es. record {
      opening = (arc_value c.self.inside.opening).commands;
      entries = es;
      kept = c.self.inside.kept - 1;
      room = room;
    }) (told c)
    ∙ ap (λ (d : DraftParts). record {
      opening = (arc_value c.self.inside.opening).commands;
      entries = before c ++ cons_option d.entry [];
      kept = c.self.inside.kept - 1;
      room = room;
    }) c.draft.view_is
    ∙ ap (λ (h : RecordParts). record h {
      entries = h.entries ++ cons_option c.args.draft.now.entry [];
      kept = h.kept - 1;
      room = room;
    }) c.self.view_is
