use Rattle.std.proofs.Common.{◌≡◌, List, ◌++◌, ◌∙◌, length, take, drop, ap, sym, subst}
use Rattle.compiler.specs.declared.limits.ZoneLimits.{ZoneLimits}
use Rattle.compiler.specs.TablesIndex.{default_limits_of, limits_with, AreLimits}
use Rattle.compiler.proofs.LimitLemmas.{limits_over, written_back}
use Rattle.compiler.proofs.limit_table.limits_in.Goals as goal

pub returns : goal.returns
returns c =
    let zones = c.args.zones.now.entries in
    let commands = c.args.commands.now in
    let own = c.in_ok-limits.limits.items in
    let new = c.add_defaults.new.limits in
    let back : take c.in_ok-limits.limits.len (new ++ drop (length new) own) ≡ new =
    written_back new own c.in_ok-limits.limits.len
    (c.add_defaults.ensures.each ∙ c.deref_mut.ensures.len) in
    let over : AreLimits zones commands new =
    limits_over zones commands own new c.in_ok-limits.ensures.own
    (λ place. c.add_defaults.ensures.kept place
    ∙ ap (λ defaults. limits_with zones defaults c.deref_mut.result.now place)
    c.default_limits_of.ensures
    ∙ ap (λ all. limits_with zones (default_limits_of commands) all place)
    c.deref_mut.ensures.value) in
    subst (λ (limits : List ZoneLimits). AreLimits zones commands limits) (sym back) over
