use Rattle.std.proofs.Common.{◌≡◌, ◌∙◌, ◌++◌, ◌∷◌, [], List, ap, ap₂, length, subst, sym}
use Rattle.call_rows.specs.declared.rows.NumberedAdmission.{NumberedAdmission}
use Rattle.call_rows.specs.declared.kept_admission.KeptAdmission.{KeptAdmission}
use Rattle.call_rows.specs.declared.kept_admission.KeptAdmission.TheVariants.{Aside}
use Rattle.call_rows.specs.AdmissionList.{AdmissionListParts}
use Rattle.call_rows.specs.KeptAdmission.{admissions_told}
use Rattle.call_rows.proofs.HeldLemmas.{HoldsAll, whole_held}
use Rattle.call_rows.proofs.admission_list.AdmissionList.push_aside.Goals as goal

made : (c : goal.After-push_reserved-2)
    → HoldsAll c.push_reserved-2.new.self.items c.push_reserved.new.self.items
    (c.args.self.now.items ++ c.args.admission.now ∷ [])
made c =
    let was = c.self.inside in
    let now : AdmissionListParts = c.args.self.now in
    let aside = c.push_reserved.ensures.items
    ∙ ap (λ (a : NumberedAdmission). was.aside.items ++ a ∷ []) c.of.ensures in
    let kept = c.push_reserved-2.ensures.items
    ∙ ap (λ (k : KeptAdmission). was.kept.items ++ k ∷ []) (c.of-2.ensures
    ∙ ap (λ n. let k : KeptAdmission = Aside n in k)
    (c.len-place.ensures ∙ was.aside.ok.0)) in
    subst (λ (ks : List KeptAdmission). HoldsAll ks c.push_reserved.new.self.items
    (now.items ++ c.args.admission.now ∷ [])) (sym kept)
    (subst (λ (items : List NumberedAdmission). HoldsAll
    (was.kept.items ++ Aside (length was.aside.items) ∷ []) items
    (now.items ++ c.args.admission.now ∷ [])) (sym aside)
    (whole_held was.kept.items was.aside.items
    (admissions_told was.kept.items was.aside.items) c.self.invariant c.args.admission.now now
    (ap (λ (l : AdmissionListParts). l.items) c.self.view_is)))

pub invariant_of-self : goal.invariant_of-self
invariant_of-self c = (made c).held

pub returns-clause-items : goal.returns-clause-items
returns-clause-items c = (made c).told
