use Rattle.std.proofs.Common.{◌≡◌, ◌+◌, ◌∙◌, ◌++◌, ◌∷◌, [], List, Option, Some, length, ap, ap₂, sym, subst}
use Rattle.std.specs.Prelude.{is_some, if◌then◌else◌}
use Rattle.call_rows.specs.declared.open_at.OpenAt.{OpenAt}
use Rattle.call_rows.specs.declared.rows.CallEvent.TheVariants as events
use Rattle.call_rows.specs.declared.steps.Step.{Step}
use Rattle.call_rows.specs.OpenCalls.{opens_of}
use Rattle.call_rows.specs.Rows.{RowParts, SnapshotParts}
use Rattle.call_rows.proofs.KeptLemmas.{IsDone, done, kept_of, no_moving_fault, release_kept}
use Rattle.call_rows.proofs.RowLemmas.{no_fault}
use Rattle.call_rows.proofs.snapshots.Snapshot.push_release.Goals as goal

made : (c : goal.After-push_reserved)
    → IsDone c.self.inside.admissions.items c.push_reserved.new.self.items
    c.remove.new.self.entries c.self.inside.endpoints.endpoints c.args.self.now
    (record { number = c.args.number; event = events.Released c.args.call })
made c =
    let was = c.self.inside in
    let old : SnapshotParts = c.args.self.now in
    let row : RowParts = record { number = c.args.number; event = events.Released c.args.call } in
    let opened = sym c.in-Some.ensures in
    let free = no_fault old.rows row c.requires.room c.requires.later
    (no_moving_fault c.args.call (opens_of old.rows) c.in-Some.at opened) in
    let steps = c.push_reserved.ensures.items
    ∙ ap₂ (λ (ss : List Step) s. ss ++ s ∷ []) c.reserve.ensures.items c.released.ensures in
    let keeps = kept_of was.admissions.items was.steps.items was.calls.entries
    was.endpoints.endpoints old c.self.view_is c.self.invariant in
    let less = subst (λ (o : Option OpenAt).
    length c.remove.new.self.entries + (if is_some o then 1 else 0) ≡ length was.calls.entries)
    (c.remove.ensures.value ∙ keeps.found c.args.call ∙ opened) c.remove.ensures.len in
    done was.admissions.items was.admissions.items was.steps.items _ _
    c.remove.new.self.entries was.endpoints.endpoints old row c.self.view_is
    (release_kept was.admissions.items was.steps.items was.calls.entries
    c.remove.new.self.entries old.rows keeps c.args.number c.args.call c.in-Some.at opened free
    c.requires.sound c.remove.ensures.updates.0 less) steps

pub invariant_of-self-2 : goal.invariant_of-self-2
invariant_of-self-2 c = (made c).kept

pub returns : goal.returns
returns c = (
  no_moving_fault c.args.call (opens_of c.args.self.now.rows) c.in-Some.at
      (sym c.in-Some.ensures),
  (made c).shown,
)
