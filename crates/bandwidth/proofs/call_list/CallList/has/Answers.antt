use Rattle.std.proofs.Common.{sym, ap, ◌∙◌}
use Rattle.std.specs.Prelude.{is_some}
use Rattle.bandwidth.specs.CallList.{by_number}
use Rattle.bandwidth.specs.Calls.{is_open}
use Rattle.bandwidth.proofs.ListLemmas.{is_there}
use Rattle.bandwidth.proofs.OrderLemmas.{lookup_by_number}
use Rattle.bandwidth.proofs.call_list.CallList.has.Goals as goal

pub returns : goal.returns
returns c =
    let number = c.args.number in
    c.contains_key.ensures
    ∙ ap is_some (sym (lookup_by_number c.self.inside.calls.entries number))
    ∙ is_there (by_number c.self.inside.calls.entries) c.self.invariant.numbered number
    ∙ ap (λ calls. is_open calls number) c.self.view_is
