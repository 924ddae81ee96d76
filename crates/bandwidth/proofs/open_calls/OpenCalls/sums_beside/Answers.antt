use Rattle.std.proofs.Common.{◌≡◌, ◌+◌, ◌&&◌, ap, ◌∙◌, arith}
use Rattle.bandwidth.specs.Calls.{without_call}
use Rattle.bandwidth.specs.Trying.{part_found}
use Rattle.bandwidth.specs.Use.{touches, is_interzone, total_of, interzone_of}
use Rattle.bandwidth.proofs.FitLemmas.{beside}
use Rattle.bandwidth.proofs.open_calls.OpenCalls.sums_beside.Goals as goal
use Rattle.bandwidth.proofs.open_calls.OpenCalls.sums_beside.Goals.{After-parts_held-parts}

-- the total is that of the others and the part of the call that is held
total_parts : (c : After-parts_held-parts)
    → total_of (without_call c.args.self.now.calls c.args.call.now.number) c.args.zone.now
    + c.parts_held-parts.result.total ≡ c.used-used.result.total
total_parts c =
    let zone = c.args.zone.now in
    let number = c.args.call.now.number in
    let both = beside (touches zone) c.args.self.now.calls number
    c.len-count.ensures.sound.ordered in
    let part = c.parts_held-parts.ensures.total
    ∙ ap (part_found (touches zone)) c.requires.held in
    let all = ap (λ sums. sums.total) c.used-used.ensures.value in omega (arith, both, part, all)

-- the interzone sum is that of the others and the part of the call that is held
interzone_parts : (c : After-parts_held-parts)
    → interzone_of (without_call c.args.self.now.calls c.args.call.now.number) c.args.zone.now
    + c.parts_held-parts.result.interzone ≡ c.used-used.result.interzone
interzone_parts c =
    let zone = c.args.zone.now in
    let number = c.args.call.now.number in
    let both = beside (λ call. touches zone call && is_interzone call) c.args.self.now.calls number
    c.len-count.ensures.sound.ordered in
    let part = c.parts_held-parts.ensures.interzone
    ∙ ap (part_found (λ call. touches zone call && is_interzone call)) c.requires.held in
    let all = ap (λ sums. sums.interzone) c.used-used.ensures.value in
    omega (arith, both, part, all)

pub overflow_sub-result : goal.overflow_sub-result
overflow_sub-result c =
    let both = total_parts ((goal.at.overflow_sub-result c).After-parts_held-parts) in
    omega (arith, both)

pub overflow_sub-result-2 : goal.overflow_sub-result-2
overflow_sub-result-2 c =
    let both = interzone_parts ((goal.at.overflow_sub-result-2 c).After-parts_held-parts) in
    omega (arith, both)

pub returns-clause-total : goal.returns-clause-total
returns-clause-total c =
    let both = total_parts ((goal.at.returns-clause-total c).After-parts_held-parts) in
    let units = c.value.ensures in
    let wide = c.from-units.ensures in omega (arith, both, units, wide)

pub returns-clause-interzone : goal.returns-clause-interzone
returns-clause-interzone c =
    let both = interzone_parts ((goal.at.returns-clause-interzone c).After-parts_held-parts) in
    let units = c.value.ensures in
    let wide = c.from-units.ensures in omega (arith, both, units, wide)
