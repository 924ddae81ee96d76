use Rattle.std.proofs.Common.{◌≤◌, ◌-◌, ◌<◌, ◌^◌, ℕ, ◌++◌, [], ◌∷◌, length, refl, sym, ap, subst, ◌∙◌, arith}
use Rattle.std.specs.Arc.{arc_value}
use Rattle.decision_record.specs.History.{RecordParts}
use Rattle.decision_record.specs.Reloads.{commands_last, plain_last}
use Rattle.decision_record.specs.Items.{entries_told, room_in, IsStored, IsLastReload}
use Rattle.decision_record.specs.declared.reloads.LastReload.{LastReload}
use Rattle.decision_record.proofs.StoredLemmas.{reload_stored, told_are, stored_told}
use Rattle.decision_record.proofs.ReloadLemmas.{reload_more}
use Rattle.decision_record.proofs.record.Record.push_reload.Goals as goal

-- the reload, as it is kept
abbrev reload : (c : goal.After-self-1) → LastReload
reload c = record { tables = c.args.tables; version = c.args.version }

-- what is stored with the entry
stored : (c : goal.After-self-1)
    → IsStored c.push_reload_item.new.log c.push.new.self
    (entries_told c.self.inside.log c.self.inside.reloads ++ plain_last (reload c) ∷ [])
    (c.self.inside.kept - 1)
stored c =
    let was = c.self.invariant.0 in
    let one : 1 ≤ c.self.inside.kept =
    omega (arith, c.requires.kept, ap (λ (h : RecordParts). h.kept) c.self.view_is) in
    let small : c.len-place.result < 2 ^ 32 =
    omega (
      arith,
      c.requires.few,
      c.len-place.ensures.value,
      was.few_reloads,
      ap (λ (h : RecordParts). length h.entries) c.self.view_is,
    ) in
    reload_stored _ _ _ _ was c.len-place.result (plain_last (reload c)) c.push_reload_item.new.log
    c.push.new.self c.len-place.ensures.value small tt c.push_reload_item.ensures.items
    c.push.ensures.entries
    (omega (arith, was.room, c.push_reload_item.ensures.room))
    (omega (arith, was.room_reloads, c.push.ensures.room))

-- its tables are in force
last : (c : goal.After-self-1)
    → IsLastReload (arc_value c.self.inside.opening).commands c.push.new.self.last
    (entries_told c.self.inside.log c.self.inside.reloads ++ plain_last (reload c) ∷ [])
last c =
    rw c.push.ensures.last
    (reload_more (arc_value c.self.inside.opening).commands
    (entries_told c.self.inside.log c.self.inside.reloads)
    (plain_last (reload c)) (commands_last (reload c)) refl)

pub invariant_of-self : goal.invariant_of-self
invariant_of-self c = (
  stored_told _ _ _ _ (stored c),
  subst (λ es. IsLastReload (arc_value c.self.inside.opening).commands c.push.new.self.last es)
      (sym (told_are _ _ _ _ (stored c))) (last c),
)

pub returns-clause-entered : goal.returns-clause-entered
returns-clause-entered c =
    let room : ℕ = room_in c.push_reload_item.new.log c.push.new.self in
    ap (λ es. record {
      opening = (arc_value c.self.inside.opening).commands;
      entries = es;
      kept = c.self.inside.kept - 1;
      room = room;
    }) (told_are _ _ _ _ (stored c))
    ∙ ap (λ (h : RecordParts). record h {
      entries = h.entries ++ plain_last (reload c) ∷ [];
      kept = h.kept - 1;
      room = room;
    }) c.self.view_is
