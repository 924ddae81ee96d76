use Rattle.std.proofs.Common.{sym, ap, ◌∙◌}
use Rattle.gk_commands.specs.Zones.{is_local}
use Rattle.registry.proofs.KeepingLemmas.{one_goes, all_looked_at}
use Rattle.registry.proofs.keeping.keep_zones.Goals as goal

pub loop-number-preserved-then-not-is_local : goal.loop-number-preserved-then-not-is_local
loop-number-preserved-then-not-is_local c =
    let commands = c.args.tables.now.commands in
    one_goes commands c.args.endpoints.now c.loop-number.endpoints c.loop-number.from
    c.in-Some.number
    c.in-Some.endpoint.now c.loop-number.invariant c.in-Some.ensures.next c.remove.new.self
    c.id.result.now c.id.ensures
    (ap (is_local commands) (sym c.zone.ensures) ∙ sym c.is_local.ensures ∙ c.if-not-is_local.true)
    c.next_from.ensures.sorted c.remove.ensures.without c.remove.ensures.numbered

pub returns : goal.returns
returns c =
    all_looked_at c.args.tables.now.commands c.args.endpoints.now c.loop-number.endpoints
    c.loop-number.from c.loop-number.invariant c.next_from.ensures.sorted c.in_default.ensures.next
