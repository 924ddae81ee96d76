use Rattle.std.proofs.Common.{sym, ap, ◌∙◌, true≢false}
use Rattle.plan_difference.proofs.Priorities.{same_parts}
use Rattle.plan_difference.proofs.sameness.is_same_destination.Goals as goal

pub returns-then-not-is_same_zone : goal.returns-then-not-is_same_zone
returns-then-not-is_same_zone c = (
  λ e. absurd (true≢false (sym e)),
  λ e. absurd (true≢false (sym (c.is_same_zone.ensures.1 (ap (λ d. d.zone) e))
      ∙ c.if-not-is_same_zone.true)),
)

pub returns-then-not-is_same_address : goal.returns-then-not-is_same_address
returns-then-not-is_same_address c = (
  λ e. absurd (true≢false (sym e)),
  λ e. absurd (true≢false (sym (c.is_same_address.ensures.1 (ap (λ d. d.address) e))
      ∙ c.if-not-is_same_address.true)),
)

pub returns-then-not-is_same_technology : goal.returns-then-not-is_same_technology
returns-then-not-is_same_technology c = (
  λ e. absurd (true≢false (sym e)),
  λ e. absurd (true≢false (sym (c.is_same_technology.ensures.1 (ap (λ d. d.technology) e))
      ∙ c.if-not-is_same_technology.true)),
)

pub returns : goal.returns
returns c = (
  λ e. same_parts c.args.destination.now c.args.other.now
      (c.is_same_zone.ensures.0 c.if-not-is_same_zone.false)
      (c.is_same_address.ensures.0 c.if-not-is_same_address.false)
      (c.is_same_technology.ensures.0 c.if-not-is_same_technology.false)
      (c.is_same_refusal.ensures.0 e),
  λ e. c.is_same_refusal.ensures.1 (ap (λ d. d.refused) e),
)
