use Rattle.std.proofs.Common.{◌≤◌, ◌*◌, length, sym, ap, subst, ◌∙◌}
use Rattle.std.proofs.lemmas.Map.Entries.{length-values_of}
use Rattle.bandwidth.specs.CallList.{by_number}
use Rattle.bandwidth.specs.Calls.{AreInOrder}
use Rattle.bandwidth.specs.Use.{units_of}
use Rattle.bandwidth.proofs.CallLemmas.{in_order}
use Rattle.bandwidth.proofs.ListLemmas.{ascending, small}
use Rattle.bandwidth.proofs.OrderLemmas.{length_by_number}
use Rattle.bandwidth.proofs.call_list.CallList.len.Goals as goal

pub returns-clause-value : goal.returns-clause-value
returns-clause-value c =
    let entries = c.self.inside.calls.entries in
    c.len.ensures.len
    ∙ sym (length_by_number entries c.len.ensures.unique)
    ∙ sym (length-values_of (by_number entries))
    ∙ ap length c.self.view_is

pub returns-clause-ordered : goal.returns-clause-ordered
returns-clause-ordered c =
    subst AreInOrder c.self.view_is
    (in_order _ (ascending (by_number c.self.inside.calls.entries) c.self.invariant.numbered
    c.self.invariant.sorted))

pub returns-clause-small : goal.returns-clause-small
returns-clause-small c =
    subst (λ calls. units_of calls ≤ length calls * 4294967295) c.self.view_is
    (small (by_number c.self.inside.calls.entries) c.self.invariant.numbered)
