use Rattle.std.proofs.Common.{sym, ap, ◌∙◌}
use Rattle.std.specs.Option.{option_copied}
use Rattle.registry.proofs.GatewayLemmas.{first_serving, none_serving}
use Rattle.registry.proofs.choosing.first_serving.Goals as goal

pub returns-in_err-number : goal.returns-in_err-number
returns-in_err-number c =
    ap option_copied c.from_residual.ensures
    ∙ sym (none_serving c.args.endpoints.now.entries c.next-next.ensures.sorted c.args.zone.now
    c.args.prefix.now c.in_err-number.ensures)

pub returns : goal.returns
returns c =
    c.at_number.ensures
    ∙ sym (first_serving c.args.endpoints.now.entries c.next-next.ensures.sorted c.args.zone.now
    c.args.prefix.now c.in_ok-number.number c.in_ok-number.ensures)
