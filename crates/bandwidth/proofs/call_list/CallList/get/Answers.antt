use Rattle.std.proofs.Common.{Some, sym, ap, ◌∙◌}
use Rattle.bandwidth.specs.CallList.{by_number}
use Rattle.bandwidth.specs.Calls.{call_of}
use Rattle.bandwidth.proofs.ListLemmas.{found}
use Rattle.bandwidth.proofs.OrderLemmas.{lookup_by_number}
use Rattle.bandwidth.proofs.call_list.CallList.get.Goals as goal

pub returns-in-Some : goal.returns-in-Some
returns-in-Some c =
    let number = c.args.number in
    ap Some c.call.ensures
    ∙ c.in-Some.ensures.value
    ∙ sym (lookup_by_number c.self.inside.calls.entries number)
    ∙ found (by_number c.self.inside.calls.entries) c.self.invariant.numbered number
    ∙ ap (λ calls. call_of calls number) c.self.view_is

pub returns-in-None : goal.returns-in-None
returns-in-None c =
    let number = c.args.number in
    c.in-None.ensures.value
    ∙ sym (lookup_by_number c.self.inside.calls.entries number)
    ∙ found (by_number c.self.inside.calls.entries) c.self.invariant.numbered number
    ∙ ap (λ calls. call_of calls number) c.self.view_is
