use Rattle.std.proofs.Common.{◌∙◌, List, ap}
use Rattle.std.specs.Prelude.{slice_get}
use Rattle.std.specs.Option.{option_and_then}
use Rattle.call_rows.specs.declared.rows.NumberedAdmission.{NumberedAdmission}
use Rattle.call_rows.specs.declared.kept_admission.KeptAdmission.{KeptAdmission}
use Rattle.call_rows.specs.AdmissionList.{AdmissionListParts}
use Rattle.call_rows.specs.KeptAdmission.{admission_meant}
use Rattle.call_rows.proofs.HeldLemmas.{held_at}
use Rattle.call_rows.proofs.admission_list.AdmissionList.digits.Goals as goal

pub returns-in-Some : goal.returns-in-Some
returns-in-Some c =
    let was = c.self.inside in
    c.digits.ensures
    ∙ ap (option_and_then (λ (a : NumberedAdmission). a.asked.digits))
    (ap (λ (k : KeptAdmission). admission_meant c.deref-in-Some.result.now k) c.kept.ensures
    ∙ ap (λ (items : List NumberedAdmission). admission_meant items c.in-Some.held.now)
    c.deref-in-Some.ensures.value
    ∙ ap (option_and_then (admission_meant was.aside.items)) c.in-Some.ensures
    ∙ ap (λ (ks : List KeptAdmission).
    option_and_then (admission_meant was.aside.items) (slice_get ks c.args.place))
    c.deref.ensures.value
    ∙ held_at was.kept.items was.aside.items c.args.self.now c.args.place c.self.invariant
    (ap (λ (l : AdmissionListParts). l.items) c.self.view_is))

pub returns-in-None : goal.returns-in-None
returns-in-None c =
    let was = c.self.inside in
    ap (option_and_then (λ (a : NumberedAdmission). a.asked.digits))
    (ap (option_and_then (admission_meant was.aside.items)) c.in-None.ensures
    ∙ ap (λ (ks : List KeptAdmission).
    option_and_then (admission_meant was.aside.items) (slice_get ks c.args.place))
    c.deref.ensures.value
    ∙ held_at was.kept.items was.aside.items c.args.self.now c.args.place c.self.invariant
    (ap (λ (l : AdmissionListParts). l.items) c.self.view_is))
