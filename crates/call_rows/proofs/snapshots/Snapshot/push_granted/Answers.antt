use Rattle.std.proofs.Common.{◌≡◌, ℕ, cond, ◌+◌, ◌∙◌, ◌++◌, ◌∷◌, [], List, Option, Some, None, length, ap, ap₂, sym, subst, arith}
use Rattle.std.specs.Prelude.{is_some, nat_eq, option_map, if◌then◌else◌}
use Rattle.std.specs.Map.{lookup}
use Rattle.call_rows.specs.declared.open_at.OpenAt.{OpenAt}
use Rattle.call_rows.specs.declared.rows.NumberedAdmission.{NumberedAdmission}
use Rattle.call_rows.specs.declared.steps.Step.{Step}
use Rattle.call_rows.specs.declared.steps.StepKind.TheVariants as kinds
use Rattle.call_rows.specs.OpenCalls.{open_of, opens_of}
use Rattle.call_rows.specs.Pushing.{event_fault}
use Rattle.call_rows.specs.SnapshotIndex.{open_at}
use Rattle.call_rows.specs.Rows.{RowParts, SnapshotParts, said_by}
use Rattle.call_rows.proofs.KeptLemmas.{IsDone, done, grant_kept, kept_of, no_opening_fault, not_open, one_more_if_new, when_ok}
use Rattle.call_rows.proofs.RowLemmas.{few_admissions, no_fault}
use Rattle.call_rows.proofs.snapshots.Snapshot.push_granted.Goals as goal

-- no call of its number is open
free : (c : goal.After-push_reserved)
    → open_of c.args.asked.now.call (opens_of c.args.self.now.rows) ≡ None
free c =
    let keeps = kept_of c.self.inside.admissions.items c.self.inside.steps.items
    c.self.inside.calls.entries c.self.inside.endpoints.endpoints c.args.self.now c.self.view_is
    c.self.invariant in
    not_open _ (sym (ap is_some (keeps.found c.args.asked.now.call))
    ∙ sym c.contains_key.ensures ∙ c.if-contains_key.false)

no_fault_of : (c : goal.After-push_reserved)
    → event_fault (opens_of c.args.self.now.rows) (said_by c.args.asked.now) ≡ None
no_fault_of c =
    no_opening_fault c.args.asked.now (opens_of c.args.self.now.rows) c.requires.granted (free c)
    (sym c.is_full.ensures ∙ c.if-is_full.false)

made : (c : goal.After-push_reserved)
    → IsDone c.push.new.self.items c.push_reserved.new.self.items
    c.insert.new.self.entries c.self.inside.endpoints.endpoints c.args.self.now
    (record { number = c.args.number; event = said_by c.args.asked.now })
made c =
    let was = c.self.inside in
    let old : SnapshotParts = c.args.self.now in
    let row : RowParts = record {
      number = c.args.number;
      event = said_by c.args.asked.now;
    } in
    let admission : NumberedAdmission = record {
      number = c.args.number;
      asked = c.args.asked.now;
    } in
    let follows = no_fault old.rows row c.requires.room c.requires.later (no_fault_of c) in
    let place : c.len-admission.result ≡ length was.admissions.items =
    c.len-admission.ensures ∙ ap length c.reserve-2.ensures.items in
    let step = c.admitted.ensures ∙ ap₂ (λ n units. let s : Step = record {
      number = c.args.number;
      admission = n;
      gained = units;
      lost = 0;
      kind = kinds.Admitted;
    } in s) place c.value-units.ensures in
    let steps = c.push_reserved.ensures.items
    ∙ ap₂ (λ (ss : List Step) s. ss ++ s ∷ []) c.reserve.ensures.items step in
    let keeps = kept_of was.admissions.items was.steps.items was.calls.entries
    was.endpoints.endpoints old c.self.view_is c.self.invariant in
    let admissions = c.push.ensures.items
    ∙ ap (λ (items : List NumberedAdmission). items ++ admission ∷ []) c.reserve-2.ensures.items in
    let put = sym c.is_err-3.ensures.value ∙ c.if-is_err-3.false in
    let updates = when_ok c.insert.result put c.insert.ensures.updates in
    let count = one_more_if_new c.insert.result _ _ _ put c.insert.ensures.old
    c.insert.ensures.len in
    let none = keeps.found c.args.asked.now.call ∙ ap (option_map open_at) (free c) in
    let one = subst (λ (o : Option OpenAt).
    length c.insert.new.self.entries ≡ length was.calls.entries + (if is_some o then 0 else 1))
    none count in
    let here = λ (other : ℕ). updates.0 other ∙ ap₂ (λ n units. let at : OpenAt = record {
      admission = n;
      units = units;
    } in cond (nat_eq c.args.asked.now.call other) (Some at)
    (lookup (nat_eq other) was.calls.entries)) place c.value-units.ensures in
    subst (λ (items : List NumberedAdmission). IsDone items c.push_reserved.new.self.items
    c.insert.new.self.entries was.endpoints.endpoints old row) (sym admissions)
    (done was.admissions.items (was.admissions.items ++ admission ∷ []) was.steps.items _ _
    c.insert.new.self.entries was.endpoints.endpoints old row c.self.view_is
    (grant_kept was.admissions.items was.steps.items was.calls.entries
    old.rows keeps c.args.number c.args.asked.now c.insert.new.self.entries (free c) here one
    c.requires.granted follows c.requires.sound) steps)

pub overflow_cast-admission : goal.overflow_cast-admission
overflow_cast-admission c =
    let keeps = kept_of c.self.inside.admissions.items c.self.inside.steps.items
    c.self.inside.calls.entries c.self.inside.endpoints.endpoints c.args.self.now c.self.view_is
    c.self.invariant in
    let place : c.len-admission.result ≡ length c.self.inside.admissions.items =
    c.len-admission.ensures ∙ ap length c.reserve-2.ensures.items in
    let admitted = ap length keeps.admitted in
    let few = few_admissions c.args.self.now.rows in
    let room = c.requires.room in
    omega (arith, place, admitted, few, room)

pub push-requires-clause-few : goal.push-requires-clause-few
push-requires-clause-few c =
    let keeps = kept_of c.self.inside.admissions.items c.self.inside.steps.items
    c.self.inside.calls.entries c.self.inside.endpoints.endpoints c.args.self.now c.self.view_is
    c.self.invariant in
    let place = ap length c.reserve-2.ensures.items in
    let admitted = ap length keeps.admitted in
    let few = few_admissions c.args.self.now.rows in
    let room = c.requires.room in
    omega (arith, place, admitted, few, room)

pub invariant_of-self-2 : goal.invariant_of-self-2
invariant_of-self-2 c = (made c).kept

pub returns : goal.returns
returns c = (no_fault_of c, (made c).shown)
