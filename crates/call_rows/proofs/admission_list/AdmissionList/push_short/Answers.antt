use Rattle.std.proofs.Common.{◌≡◌, ◌∙◌, ◌++◌, ◌∷◌, [], List, ap, subst, sym}
use Rattle.std.specs.List.{cons_option}
use Rattle.call_rows.specs.declared.kept_admission.KeptAdmission.{KeptAdmission}
use Rattle.call_rows.specs.AdmissionList.{AdmissionListParts}
use Rattle.call_rows.specs.KeptAdmission.{admission_meant, admissions_told}
use Rattle.call_rows.proofs.HeldLemmas.{HoldsAll, short_held}
use Rattle.call_rows.proofs.admission_list.AdmissionList.push_short.Goals as goal

made : (c : goal.After-push_reserved)
    → HoldsAll c.push_reserved.new.self.items c.self.inside.aside.items
    (c.args.self.now.items ++ cons_option (admission_meant [] c.args.kept.now) [])
made c =
    let was = c.self.inside in
    let now : AdmissionListParts = c.args.self.now in
    let items = c.push_reserved.ensures.items
    ∙ ap (λ (k : KeptAdmission). was.kept.items ++ k ∷ []) c.of.ensures in
    subst (λ (ks : List KeptAdmission). HoldsAll ks was.aside.items
    (now.items ++ cons_option (admission_meant [] c.args.kept.now) [])) (sym items)
    (short_held was.kept.items was.aside.items
    (admissions_told was.kept.items was.aside.items) c.self.invariant c.args.kept.now now
    (ap (λ (l : AdmissionListParts). l.items) c.self.view_is) c.requires.meant)

pub invariant_of-self : goal.invariant_of-self
invariant_of-self c = (made c).held

pub returns-clause-items : goal.returns-clause-items
returns-clause-items c = (made c).told
