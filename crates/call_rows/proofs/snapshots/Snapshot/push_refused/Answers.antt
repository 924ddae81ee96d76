use Rattle.std.proofs.Common.{◌≡◌, ◌∙◌, ◌++◌, ◌∷◌, [], List, length, ap, ap₂, sym, subst, arith}
use Rattle.call_rows.specs.declared.rows.NumberedAdmission.{NumberedAdmission}
use Rattle.call_rows.specs.declared.steps.Step.{Step}
use Rattle.call_rows.specs.declared.steps.StepKind.TheVariants as kinds
use Rattle.call_rows.specs.OpenCalls.{opens_of}
use Rattle.call_rows.specs.Rows.{RowParts, SnapshotParts, said_by}
use Rattle.call_rows.proofs.KeptLemmas.{IsDone, done, kept_of, no_refusal_fault, refusal_kept}
use Rattle.call_rows.proofs.RowLemmas.{few_admissions, no_fault}
use Rattle.call_rows.proofs.snapshots.Snapshot.push_refused.Goals as goal

made : (c : goal.After-push_reserved)
    → IsDone c.push.new.self.items c.push_reserved.new.self.items
    c.self.inside.calls.entries c.self.inside.endpoints.endpoints c.args.self.now
    (record { number = c.args.number; event = said_by c.args.asked.now })
made c =
    let was = c.self.inside in
    let old : SnapshotParts = c.args.self.now in
    let row : RowParts = record {
      number = c.args.number;
      event = said_by c.args.asked.now;
    } in
    let admission : NumberedAdmission = record {
      number = c.args.number;
      asked = c.args.asked.now;
    } in
    let free = no_fault old.rows row c.requires.room c.requires.later
    (no_refusal_fault c.args.asked.now (opens_of old.rows) c.requires.refused) in
    let place : c.len-admission.result ≡ length was.admissions.items =
    c.len-admission.ensures ∙ ap length c.reserve-2.ensures.items in
    let step = c.admitted.ensures ∙ ap (λ n. let s : Step = record {
      number = c.args.number;
      admission = n;
      gained = 0;
      lost = 0;
      kind = kinds.Admitted;
    } in s) place in
    let steps = c.push_reserved.ensures.items
    ∙ ap₂ (λ (ss : List Step) s. ss ++ s ∷ []) c.reserve.ensures.items step in
    let keeps = kept_of was.admissions.items was.steps.items was.calls.entries
    was.endpoints.endpoints old c.self.view_is c.self.invariant in
    let admissions = c.push.ensures.items
    ∙ ap (λ (items : List NumberedAdmission). items ++ admission ∷ []) c.reserve-2.ensures.items in
    subst (λ (items : List NumberedAdmission). IsDone items c.push_reserved.new.self.items
    was.calls.entries was.endpoints.endpoints old row) (sym admissions)
    (done was.admissions.items (was.admissions.items ++ admission ∷ []) was.steps.items _ _
    was.calls.entries was.endpoints.endpoints old row c.self.view_is
    (refusal_kept was.admissions.items was.steps.items was.calls.entries
    old.rows keeps c.args.number c.args.asked.now c.requires.refused free c.requires.sound) steps)

pub overflow_cast-admission : goal.overflow_cast-admission
overflow_cast-admission c =
    let keeps = kept_of c.self.inside.admissions.items c.self.inside.steps.items
    c.self.inside.calls.entries c.self.inside.endpoints.endpoints c.args.self.now c.self.view_is
    c.self.invariant in
    let place : c.len-admission.result ≡ length c.self.inside.admissions.items =
    c.len-admission.ensures ∙ ap length c.reserve-2.ensures.items in
    let admitted = ap length keeps.admitted in
    let few = few_admissions c.args.self.now.rows in
    let room = c.requires.room in
    omega (arith, place, admitted, few, room)

pub push-requires-clause-few : goal.push-requires-clause-few
push-requires-clause-few c =
    let keeps = kept_of c.self.inside.admissions.items c.self.inside.steps.items
    c.self.inside.calls.entries c.self.inside.endpoints.endpoints c.args.self.now c.self.view_is
    c.self.invariant in
    let place = ap length c.reserve-2.ensures.items in
    let admitted = ap length keeps.admitted in
    let few = few_admissions c.args.self.now.rows in
    let room = c.requires.room in
    omega (arith, place, admitted, few, room)

pub invariant_of-self-2 : goal.invariant_of-self-2
invariant_of-self-2 c = (made c).kept

pub returns : goal.returns
returns c = (
  no_refusal_fault c.args.asked.now (opens_of c.args.self.now.rows) c.requires.refused,
  (made c).shown,
)
