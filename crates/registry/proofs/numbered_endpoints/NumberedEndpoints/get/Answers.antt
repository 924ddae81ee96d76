use Rattle.std.proofs.Common.{sym, ap, ◌∙◌}
use Rattle.std.specs.Option.{option_copied}
use Rattle.registry.specs.NumberedEndpoints.{by_id, kept_endpoint_of}
use Rattle.registry.proofs.NumberLemmas.{kept_under, kept_nowhere}
use Rattle.registry.proofs.numbered_endpoints.NumberedEndpoints.get.Goals as goal

pub returns-in_err-number : goal.returns-in_err-number
returns-in_err-number c =
    ap option_copied c.from_residual.ensures
    ∙ sym (kept_nowhere c.self.inside.endpoints.entries c.self.inside.numbers.entries
    c.self.inside.next c.self.invariant c.args.id.now (sym c.in_err-number.ensures.value))
    ∙ ap (λ r. kept_endpoint_of (by_id r.entries) c.args.id.now) c.self.view_is

pub returns : goal.returns
returns c =
    c.endpoint_in.ensures ∙ c.get-2.ensures.value
    ∙ sym (kept_under c.self.inside.endpoints.entries c.self.inside.numbers.entries
    c.self.inside.next c.self.invariant c.args.id.now c.in_ok-number.field-0.now
    (sym c.in_ok-number.ensures.value))
    ∙ ap (λ r. kept_endpoint_of (by_id r.entries) c.args.id.now) c.self.view_is
