use Rattle.std.proofs.Common.{◌≡◌, ◌<◌, ◌^◌, Some, refl, sym, ap, subst, ◌∙◌, arith}
use Rattle.std.specs.Prelude.{IsSome, None}
use Rattle.std.specs.BTreeMap.{is_at}
use Rattle.std.specs.List.{AllByRecursion}
use Rattle.std.specs.List.Sorted.{IsStrictlySortedBy}
use Rattle.std.specs.Map.{keys_of, values_of}
use Rattle.std.specs.Ordering.{nat_cmp}
use Rattle.bandwidth.specs.Calls.{call_of, with_changed}
use Rattle.bandwidth.specs.CallList.{IsUnderNumber, IsCallList, by_number}
use Rattle.bandwidth.proofs.CallLemmas.{has_its_number, closed_if_none, changed_none}
use Rattle.bandwidth.proofs.ListLemmas.{found, list_changed, numbered_changed}
use Rattle.bandwidth.proofs.OrderLemmas.{lookup_by_number, sorted_changed, by_number_changed}
use Rattle.bandwidth.proofs.call_list.CallList.change.Goals as goal
use Rattle.bandwidth.proofs.call_list.CallList.change.Goals.{in-Some, in_default}

pub invariant_of-self : goal.invariant_of-self
invariant_of-self c = elim c.match-get_mut.branch [
  | in-Some w ↦
      let number = c.args.number in
      let entries = c.self.inside.calls.entries in
      let held = w.in-Some.held.now in
      let call = record held { units = c.args.units } in
      let there : call_of (values_of (by_number entries)) number ≡ Some held =
      sym (found (by_number entries) c.self.invariant.numbered number)
      ∙ lookup_by_number entries number ∙ sym w.in-Some.ensures.value in
      let few = c.value-units.type_inv in
      let its = c.value-units.ensures in
      let fits : c.args.units < 2 ^ 32 = omega (arith, few, its) in
      let wrote = c.get_mut.follows.holds call in
      let changed = by_number_changed entries _ number call
      (subst IsSome (w.in-Some.ensures.value ∙ sym (lookup_by_number entries number)) refl)
      (wrote.3 (subst IsSome w.in-Some.ensures.value refl)).0 in
      subst (λ l. IsCallList (by_number l.calls.entries)) (sym w.self-inside-is)
      (rw w.set_units.ensures (record {
        numbered = subst (λ es. AllByRecursion IsUnderNumber es) (sym changed)
            (numbered_changed number call
            (record {
              number = sym (has_its_number (values_of (by_number entries)) number held there);
              small = fits;
            }) (by_number entries) c.self.invariant.numbered);
        sorted = subst (λ es. IsStrictlySortedBy nat_cmp (keys_of es)) (sym changed)
            (sorted_changed entries (is_at (nat_cmp number)) call);
      }))
  | in_default w ↦
      subst (λ l. IsCallList (by_number l.calls.entries)) (sym w.self-inside-is)
      (subst (λ m. IsCallList (by_number m.entries)) (sym c.get_mut.follows.holds-at-none)
      c.self.invariant)
]

pub returns : goal.returns
returns c = elim c.match-get_mut.branch [
  | in-Some w ↦
      let number = c.args.number in
      let units = c.args.units in
      let entries = c.self.inside.calls.entries in
      let held = w.in-Some.held.now in
      let call = record held { units = units } in
      let there : call_of (values_of (by_number entries)) number ≡ Some held =
      sym (found (by_number entries) c.self.invariant.numbered number)
      ∙ lookup_by_number entries number ∙ sym w.in-Some.ensures.value in
      let wrote = c.get_mut.follows.holds call in
      let changed = by_number_changed entries _ number call
      (subst IsSome (w.in-Some.ensures.value ∙ sym (lookup_by_number entries number)) refl)
      (wrote.3 (subst IsSome w.in-Some.ensures.value refl)).0 in
      ap (λ l. values_of (by_number l.calls.entries)) w.self-inside-is
      ∙ rw w.set_units.ensures (ap values_of changed
      ∙ list_changed number units held (by_number entries) c.self.invariant.numbered
      c.self.invariant.sorted there
      ∙ ap (λ calls. with_changed calls number units) c.self.view_is)
  | in_default w ↦
      let number = c.args.number in
      let units = c.args.units in
      let entries = c.self.inside.calls.entries in
      let none : call_of (values_of (by_number entries)) number ≡ None =
      sym (found (by_number entries) c.self.invariant.numbered number)
      ∙ lookup_by_number entries number ∙ sym w.in_default.ensures.value in
      ap (λ l. values_of (by_number l.calls.entries)) w.self-inside-is
      ∙ ap (λ m. values_of (by_number m.entries)) c.get_mut.follows.holds-at-none
      ∙ sym (changed_none (values_of (by_number entries)) number units
      (closed_if_none (values_of (by_number entries)) number none))
      ∙ ap (λ calls. with_changed calls number units) c.self.view_is
]
