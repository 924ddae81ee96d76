use Rattle.std.proofs.Common.{◌≡◌, ℕ, cond, ◌+◌, ◌∙◌, ◌++◌, ◌∷◌, [], List, Option, Some, None, length, ap, ap₂, sym, subst, refl, arith}
use Rattle.std.specs.Prelude.{is_err, is_some, nat_eq, if◌then◌else◌}
use Rattle.std.specs.Map.{lookup}
use Rattle.call_rows.specs.declared.open_at.OpenAt.{OpenAt}
use Rattle.call_rows.specs.declared.rows.CallEvent.TheVariants as events
use Rattle.call_rows.specs.declared.rows.NumberedAdmission.{NumberedAdmission}
use Rattle.call_rows.specs.declared.steps.Step.{Step}
use Rattle.call_rows.specs.declared.steps.StepKind.TheVariants as kinds
use Rattle.call_rows.specs.OpenCalls.{opens_of}
use Rattle.call_rows.specs.Rows.{RowParts, SnapshotParts}
use Rattle.call_rows.proofs.KeptLemmas.{IsDone, done, kept_of, no_moving_fault, change_kept, one_more_if_new, when_ok}
use Rattle.call_rows.proofs.RowLemmas.{no_fault}
use Rattle.call_rows.proofs.snapshots.Snapshot.push_change.Goals as goal

made : (c : goal.After-push_reserved)
    → IsDone c.self.inside.admissions.items c.push_reserved.new.self.items
    c.insert-put.new.self.entries c.self.inside.endpoints.endpoints c.args.self.now
    (record { number = c.args.number; event = events.Changed c.args.call c.args.units })
made c =
    let was = c.self.inside in
    let old : SnapshotParts = c.args.self.now in
    let row : RowParts = record {
      number = c.args.number;
      event = events.Changed c.args.call c.args.units;
    } in
    let opened = sym c.in-Some.ensures in
    let free = no_fault old.rows row c.requires.room c.requires.later
    (no_moving_fault c.args.call (opens_of old.rows) c.in-Some.at opened) in
    let step = c.changed.ensures ∙ ap (λ n. let s : Step = record {
      number = c.args.number;
      admission = c.in-Some.at.admission;
      gained = n;
      lost = c.in-Some.at.units;
      kind = kinds.Changed;
    } in s) c.value-units.ensures in
    let steps = c.push_reserved.ensures.items
    ∙ ap₂ (λ (ss : List Step) s. ss ++ s ∷ []) c.reserve.ensures.items step in
    let keeps = kept_of was.admissions.items was.steps.items was.calls.entries
    was.endpoints.endpoints old c.self.view_is c.self.invariant in
    let put = ap is_err c.unwrap.ensures in
    let updates = when_ok c.insert-put.result put c.insert-put.ensures.updates in
    let count = one_more_if_new c.insert-put.result _ _ _ put c.insert-put.ensures.old
    c.insert-put.ensures.len in
    let same = subst (λ (o : Option OpenAt).
    length c.insert-put.new.self.entries
    ≡ length was.calls.entries + (if is_some o then 0 else 1))
    (keeps.found c.args.call ∙ opened) count in
    let here = λ (other : ℕ). updates.0 other ∙ ap (λ n. let at : OpenAt = record {
      admission = c.in-Some.at.admission;
      units = n;
    } in cond (nat_eq c.args.call other) (Some at) (lookup (nat_eq other) was.calls.entries))
    c.value-units.ensures in
    done was.admissions.items was.admissions.items was.steps.items _ _
    c.insert-put.new.self.entries was.endpoints.endpoints old row c.self.view_is
    (change_kept was.admissions.items was.steps.items was.calls.entries
    c.insert-put.new.self.entries old.rows keeps c.args.number c.args.call c.in-Some.at opened
    c.args.units here (omega (arith, same)) free c.requires.sound) steps

pub invariant_of-self-2 : goal.invariant_of-self-2
invariant_of-self-2 c = (made c).kept

pub returns : goal.returns
returns c = (
  no_moving_fault c.args.call (opens_of c.args.self.now.rows) c.in-Some.at
      (sym c.in-Some.ensures),
  (made c).shown,
)
