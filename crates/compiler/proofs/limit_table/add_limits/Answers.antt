use Rattle.std.proofs.Common.{sym, ◌∙◌}
use Rattle.compiler.proofs.LimitLemmas.{limits_set, nothing_set}
use Rattle.compiler.proofs.limit_table.add_limits.Goals as goal

pub returns-then-place-limits-clause-kept : goal.returns-then-place-limits-clause-kept
returns-then-place-limits-clause-kept c =
    limits_set c.args.zones.now.entries c.args.limits.now c.args.command.now _
    c.place-place.result (sym c.in-Some.ensures) (c.place-place.ensures ∙ c.number_of_name.ensures)
    c.requires.each c.or.result c.if-place-limits.true c.or.ensures

pub returns-else-place-limits-clause-kept : goal.returns-else-place-limits-clause-kept
returns-else-place-limits-clause-kept c =
    nothing_set c.args.zones.now.entries c.args.limits.now c.args.command.now _
    c.place-place.result (sym c.in-Some.ensures) (c.place-place.ensures ∙ c.number_of_name.ensures)
    c.requires.each c.if-place-limits.false
