use Rattle.std.proofs.Common.{◌≡◌, Some, subst, ap, ◌∙◌}
use Rattle.gk_commands.specs.Zones.{is_local}
use Rattle.registry.specs.Served.{IsServed, kept_for}
use Rattle.registry.proofs.ServedLemmas.{served_from, served_nowhere}
use Rattle.registry.proofs.served.Served.served_as.Goals as goal

pub returns-then-has_local-clause-served : goal.returns-then-has_local-clause-served
returns-then-has_local-clause-served c =
    let prefix = c.in_ok-prefix.prefix in
    let passes = is_local c.args.tables.now.commands in
    let spells : Some prefix ≡ Some c.args.text.now = c.in_ok-prefix.ensures in
    let same : prefix ≡ c.args.text.now = cc in
    subst (IsServed c.args.self.now passes) same
    (served_from c.args.self.now passes prefix c.in_ok-zones.zones.now
    (c.in_ok-zones.ensures.value ∙ ap (λ places. kept_for places prefix) c.self.view_is)
    (c.has_local.ensures.yes c.if-has_local.true))

pub returns-else-has_local-clause-served : goal.returns-else-has_local-clause-served
returns-else-has_local-clause-served c =
    let prefix = c.in_ok-prefix.prefix in
    let passes = is_local c.args.tables.now.commands in
    let spells : Some prefix ≡ Some c.args.text.now = c.in_ok-prefix.ensures in
    let same : prefix ≡ c.args.text.now = cc in
    subst (λ text. IsServed c.args.self.now passes text → ⊥) same
    (served_nowhere c.args.self.now passes prefix c.in_ok-zones.zones.now
    (c.in_ok-zones.ensures.value ∙ ap (λ places. kept_for places prefix) c.self.view_is)
    (c.has_local.ensures.no c.if-has_local.false))
