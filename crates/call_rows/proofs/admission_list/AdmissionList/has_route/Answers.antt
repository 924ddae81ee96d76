use Rattle.std.proofs.Common.{◌≡◌, ◌∙◌, Bool, true, false, List, Option, Some, None, ap, sym, subst}
use Rattle.std.specs.Prelude.{◌↔◌, option_map, slice_get}
use Rattle.std.specs.Option.{option_and_then}
use Rattle.std.proofs.lemmas.Option.{none-some}
use Rattle.rulings.specs.declared.routes.Route.{Route}
use Rattle.rulings.specs.Lent.{route_meant}
use Rattle.call_rows.specs.declared.rows.NumberedAdmission.{NumberedAdmission}
use Rattle.call_rows.specs.declared.kept_admission.KeptAdmission.{KeptAdmission}
use Rattle.call_rows.specs.AdmissionList.{AdmissionListParts}
use Rattle.call_rows.specs.KeptAdmission.{admission_meant}
use Rattle.call_rows.proofs.HeldLemmas.{held_at}
use Rattle.call_rows.proofs.admission_list.AdmissionList.has_route.Goals as goal

nothing : (route : Route) → (false ≡ true) ↔ (None ≡ Some route)
nothing route =
    let never : false ≡ true → ⊥ = λ h. cc in
    (λ h. absurd (never h), λ h. absurd (none-some route h))

pub returns-in-Some : goal.returns-in-Some
returns-in-Some c =
    let was = c.self.inside in
    let found = ap (λ (k : KeptAdmission). admission_meant c.deref-in-Some.result.now k)
    c.kept.ensures
    ∙ ap (λ (items : List NumberedAdmission). admission_meant items c.in-Some.held.now)
    c.deref-in-Some.ensures.value
    ∙ ap (option_and_then (admission_meant was.aside.items)) c.in-Some.ensures
    ∙ ap (λ (ks : List KeptAdmission).
    option_and_then (admission_meant was.aside.items) (slice_get ks c.args.place))
    c.deref.ensures.value
    ∙ held_at was.kept.items was.aside.items c.args.self.now c.args.place c.self.invariant
    (ap (λ (l : AdmissionListParts). l.items) c.self.view_is) in
    subst (λ (o : Option NumberedAdmission). (c.has_route.result ≡ true)
    ↔ (option_map (λ (a : NumberedAdmission). a.asked.route) o
    ≡ Some (route_meant c.args.route.now))) found c.has_route.ensures

pub returns-in-None : goal.returns-in-None
returns-in-None c =
    let was = c.self.inside in
    let found = ap (option_and_then (admission_meant was.aside.items)) c.in-None.ensures
    ∙ ap (λ (ks : List KeptAdmission).
    option_and_then (admission_meant was.aside.items) (slice_get ks c.args.place))
    c.deref.ensures.value
    ∙ held_at was.kept.items was.aside.items c.args.self.now c.args.place c.self.invariant
    (ap (λ (l : AdmissionListParts). l.items) c.self.view_is) in
    subst (λ (o : Option NumberedAdmission). (false ≡ true)
    ↔ (option_map (λ (a : NumberedAdmission). a.asked.route) o
    ≡ Some (route_meant c.args.route.now))) found (nothing (route_meant c.args.route.now))
