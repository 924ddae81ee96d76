use Rattle.std.proofs.Common.{ap, ◌∙◌}
use Rattle.bandwidth.specs.Calls.{owns}
use Rattle.bandwidth.proofs.PassLemmas.{owner_at}
use Rattle.bandwidth.proofs.open_calls.OpenCalls.owns.Goals as goal

pub returns : goal.returns
returns c =
    let id = c.args.id.now in
    c.counts_owner.ensures
    ∙ owner_at _ _ _ _ c.self.invariant.summed id
    ∙ ap (λ o. owns o.calls id) c.self.view_is
