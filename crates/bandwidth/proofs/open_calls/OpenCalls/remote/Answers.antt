use Rattle.std.proofs.Common.{arith}
use Rattle.bandwidth.proofs.SumLemmas.{units_of_some}
use Rattle.bandwidth.proofs.open_calls.OpenCalls.remote.Goals as goal

pub returns-clause-small : goal.returns-clause-small
returns-clause-small c =
    let is = c.self.invariant.summed.remotely in
    let part = units_of_some (λ call. call.remote) c.self.inside.calls in
    let all = c.len-count.ensures.small in
    let within = c.self.invariant.within in omega (arith, is, part, all, within)
