use Rattle.std.proofs.Common.{◌≡◌, ◌<◌, ◌^◌, refl, sym, ap, subst, ◌∙◌, arith}
use Rattle.std.specs.Prelude.{OnOk, false}
use Rattle.std.specs.List.{AllByRecursion}
use Rattle.std.specs.Map.{values_of}
use Rattle.bandwidth.specs.Calls.{is_open, with_call}
use Rattle.bandwidth.specs.CallList.{IsUnderNumber, IsCallList, by_number}
use Rattle.bandwidth.proofs.ListLemmas.{list_with, numbered_with}
use Rattle.bandwidth.proofs.OrderLemmas.{by_number_with, sorted_by_number}
use Rattle.bandwidth.proofs.call_list.CallList.put.Goals as goal
use Rattle.bandwidth.proofs.call_list.CallList.put.Goals.{in-Ok, in-Err}

pub invariant_of-self : goal.invariant_of-self
invariant_of-self c = elim c.match-insert.branch [
  | in-Ok w ↦
      let call = c.args.held in
      let put = by_number_with c.self.inside.calls.entries c.insert.new.self.entries
      c.call.result.now.number call w.in-Ok.ensures.updates.0 in
      let few = c.value-units.type_inv in
      let its = c.value-units.ensures in
      let same = ap (λ h. h.units) c.call-2.ensures in
      let fits : call.units < 2 ^ 32 = omega (arith, few, its, same) in
      record {
        numbered = subst (AllByRecursion IsUnderNumber) (sym put)
            (rw c.call.ensures
            (numbered_with call.number call (record { number = refl; small = fits })
            (by_number c.self.inside.calls.entries) c.self.invariant.numbered));
        sorted = sorted_by_number c.insert.new.self.entries;
      }
  | in-Err w ↦
      subst (λ es. IsCallList (by_number es)) (sym w.in-Err.ensures.err) c.self.invariant
]

pub returns-clause-ok : goal.returns-clause-ok
returns-clause-ok c = elim c.match-insert.branch [
  | in-Ok w ↦
      let call = c.args.held in
      let put = by_number_with c.self.inside.calls.entries c.insert.new.self.entries
      c.call.result.now.number call w.in-Ok.ensures.updates.0 in
      let entries = by_number c.self.inside.calls.entries in
      let fresh : is_open (values_of entries) call.number ≡ false =
      ap (λ calls. is_open calls call.number) c.self.view_is ∙ c.requires.fresh in
      subst (λ r. OnOk r
      (values_of (by_number c.insert.new.self.entries) ≡ with_call c.args.self.now call))
      (sym w.result-is)
      (ap values_of put
      ∙ rw c.call.ensures
      (list_with entries c.self.invariant.numbered c.self.invariant.sorted call fresh)
      ∙ ap (λ calls. with_call calls call) c.self.view_is)
  | in-Err w ↦
      subst (λ r. OnOk r
      (values_of (by_number c.insert.new.self.entries) ≡ with_call c.args.self.now c.args.held))
      (sym w.result-is) tt
]
