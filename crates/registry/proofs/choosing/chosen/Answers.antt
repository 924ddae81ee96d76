use Rattle.std.proofs.Common.{sym, ap, ◌∙◌}
use Rattle.std.specs.Option.{option_copied}
use Rattle.registry.proofs.GatewayLemmas.{best_is_chosen, at_best}
use Rattle.registry.proofs.choosing.chosen.Goals as goal

pub returns-in_err-number : goal.returns-in_err-number
returns-in_err-number c =
    let entries = c.args.endpoints.now.entries in
    ap option_copied c.from_residual.ensures
    ∙ sym (best_is_chosen entries c.first_unnamed-unnamed.ensures.sorted c.args.named.now.entries
    c.args.zone.now c.args.prefix.now c.best_named.result c.best_named.ensures
    ∙ ap (at_best entries) c.in_err-number.was)

pub returns : goal.returns
returns c =
    let entries = c.args.endpoints.now.entries in
    c.at_number.ensures
    ∙ sym (best_is_chosen entries c.first_unnamed-unnamed.ensures.sorted c.args.named.now.entries
    c.args.zone.now c.args.prefix.now c.best_named.result c.best_named.ensures
    ∙ ap (at_best entries) c.in_ok-number.was)
