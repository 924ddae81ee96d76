use Rattle.std.proofs.Common.{◌&&◌, ap, ◌∙◌, arith}
use Rattle.bandwidth.specs.Use.{touches, is_interzone}
use Rattle.bandwidth.specs.Sums.{use_of}
use Rattle.bandwidth.proofs.SumLemmas.{units_of_some}
use Rattle.bandwidth.proofs.open_calls.OpenCalls.used.Goals as goal

pub returns-clause-value : goal.returns-clause-value
returns-clause-value c =
    let zone = c.args.zone.now in
    c.in_zone.ensures
    ∙ c.self.invariant.summed.used zone
    ∙ ap (λ o. use_of o.calls zone) c.self.view_is

pub returns-clause-small_total : goal.returns-clause-small_total
returns-clause-small_total c =
    let zone = c.args.zone.now in
    let is = ap (λ sums. sums.total)
    (c.in_zone.ensures ∙ c.self.invariant.summed.used zone) in
    let part = units_of_some (touches zone) c.self.inside.calls in
    let all = c.len-count.ensures.small in
    let within = c.self.invariant.within in omega (arith, is, part, all, within)

pub returns-clause-small_interzone : goal.returns-clause-small_interzone
returns-clause-small_interzone c =
    let zone = c.args.zone.now in
    let is = ap (λ sums. sums.interzone)
    (c.in_zone.ensures ∙ c.self.invariant.summed.used zone) in
    let part = units_of_some (λ call. touches zone call && is_interzone call) c.self.inside.calls in
    let all = c.len-count.ensures.small in
    let within = c.self.invariant.within in omega (arith, is, part, all, within)
