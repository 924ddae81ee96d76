use Rattle.std.proofs.Common.{◌≡◌, sym, ap, subst, ◌∙◌}
use Rattle.std.specs.BTreeMap.{is_at}
use Rattle.std.specs.List.{AllByRecursion}
use Rattle.std.specs.Map.{values_of, remove_entry}
use Rattle.std.specs.Ordering.{nat_cmp}
use Rattle.bandwidth.specs.CallList.{IsUnderNumber, by_number}
use Rattle.bandwidth.specs.Calls.{call_of, without_call}
use Rattle.bandwidth.proofs.ListLemmas.{found, list_without, numbered_without}
use Rattle.bandwidth.proofs.OrderLemmas.{lookup_by_number, sorted_by_number, by_number_without}
use Rattle.bandwidth.proofs.call_list.CallList.take.Goals as goal
use Rattle.bandwidth.proofs.call_list.CallList.take.Goals.{After-remove}

-- the calls in order, without the one that was taken
left : (c : After-remove)
    → by_number c.remove.new.self.entries
    ≡ remove_entry (is_at (nat_cmp c.args.number)) (by_number c.self.inside.calls.entries)
left c =
    by_number_without c.self.inside.calls.entries c.remove.new.self.entries c.args.number
    c.remove.ensures.updates.0

pub invariant_of-self : goal.invariant_of-self
invariant_of-self c = record {
  numbered = subst (AllByRecursion IsUnderNumber)
      (sym (left ((goal.at.invariant_of-self c).After-remove)))
      (numbered_without c.args.number (by_number c.self.inside.calls.entries)
      c.self.invariant.numbered);
  sorted = sorted_by_number c.remove.new.self.entries;
}

pub returns-clause-taken : goal.returns-clause-taken
returns-clause-taken c =
    c.remove.ensures.value
    ∙ sym (lookup_by_number c.self.inside.calls.entries c.args.number)
    ∙ found (by_number c.self.inside.calls.entries) c.self.invariant.numbered c.args.number
    ∙ ap (λ calls. call_of calls c.args.number) c.self.view_is

pub returns-clause-left : goal.returns-clause-left
returns-clause-left c =
    ap values_of (left ((goal.at.returns-clause-left c).After-remove))
    ∙ list_without c.args.number (by_number c.self.inside.calls.entries) c.self.invariant.numbered
    c.self.invariant.sorted
    ∙ ap (λ calls. without_call calls c.args.number) c.self.view_is
