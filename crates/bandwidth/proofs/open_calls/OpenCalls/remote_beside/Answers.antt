use Rattle.std.proofs.Common.{◌≡◌, ◌+◌, ap, ◌∙◌, arith}
use Rattle.bandwidth.specs.Calls.{without_call}
use Rattle.bandwidth.specs.Trying.{part_found}
use Rattle.bandwidth.specs.Use.{remote_of}
use Rattle.bandwidth.proofs.FitLemmas.{beside}
use Rattle.bandwidth.proofs.open_calls.OpenCalls.remote_beside.Goals as goal
use Rattle.bandwidth.proofs.open_calls.OpenCalls.remote_beside.Goals.{After-part_in_remote}

-- the sum is that of the others and the part of the call that is held
parts : (c : After-part_in_remote)
    → remote_of (without_call c.args.self.now.calls c.args.call.now.number)
    + c.part_in_remote.result ≡ c.remote.result
parts c =
    let number = c.args.call.now.number in
    let calls = c.args.self.now.calls in
    let both = beside (λ call. call.remote) calls number c.len-count.ensures.sound.ordered in
    let part = c.part_in_remote.ensures ∙ ap (part_found (λ call. call.remote)) c.requires.held in
    let all = c.remote.ensures.value in omega (arith, both, part, all)

pub overflow_sub-result : goal.overflow_sub-result
overflow_sub-result c =
    let both = parts ((goal.at.overflow_sub-result c).After-part_in_remote) in omega (arith, both)

pub returns : goal.returns
returns c =
    let both = parts ((goal.at.returns c).After-part_in_remote) in
    let units = c.value.ensures in
    let wide = c.from.ensures in omega (arith, both, units, wide)
