use Rattle.std.proofs.Common.{◌≡◌, ap, subst, ◌∙◌}
use Rattle.std.specs.Prelude.{unwrap_or}
use Rattle.gk_commands.specs.Configuration.{Configuration}
use Rattle.compiler.specs.Limit.{limits_of}
use Rattle.compiler.specs.TablesIndex.{kept_limits, no_limits}
use Rattle.compiler.proofs.LimitLemmas.{limits_found}
use Rattle.compiler.proofs.tables.Tables.limits.Goals as goal

pub returns : goal.returns
returns c =
    let zones = c.self.inside.zones.entries in
    let limits = c.self.inside.limits.items in
    let zone = c.args.zone.now in
    c.limits_at.ensures
    ∙ ap (λ all. unwrap_or (kept_limits zones all zone) no_limits) c.deref.ensures.value
    ∙ subst (λ (configuration : Configuration).
    unwrap_or (kept_limits zones limits zone) no_limits ≡ limits_of configuration.commands zone)
    c.self.view_is
    (limits_found c.self.inside.commands.commands zones limits zone c.self.invariant.zones_are
    c.self.invariant.limits_are)
