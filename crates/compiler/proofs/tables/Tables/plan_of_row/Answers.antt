use Rattle.std.proofs.Common.{◌≡◌, ap, sym, subst, ◌∙◌, Some}
use Rattle.std.specs.Prelude.{IfSome, slice_get}
use Rattle.gk_commands.specs.Configuration.{Configuration}
use Rattle.gk_commands.specs.Zones.{zones_of}
use Rattle.compiler.specs.Plan.{row_meant, target_of, by_row}
use Rattle.compiler.specs.TablesIndex.{plan_to, kind_at}
use Rattle.compiler.proofs.TableLemmas.{index_plan_of_place, index_no_row}
use Rattle.compiler.proofs.tables.Tables.plan_of_row.Goals as goal

pub returns-in-Some-get_index : goal.returns-in-Some-get_index
returns-in-Some-get_index c =
    let number = c.in-Some.number in
    let zone = c.in-Some-get_index.zone.now in
    rw (c.in-Some.is, c.plan_to.ensures)
    (subst (λ (configuration : Configuration). IfSome (row_meant configuration.commands (Some number))
    (λ used. target_of configuration.commands
    (plan_to (kind_at (zones_of configuration.commands) zone) zone c.args.technology (Some number))
    ≡ Some (by_row configuration.commands c.args.technology used)))
    c.self.view_is
    (index_plan_of_place c.self.invariant number c.in-Some-get_index.field-0-0.now zone
    c.args.technology
    (ap (slice_get c.self.inside.rows.entries) (sym c.place.ensures)
    ∙ sym c.in-Some-get_index.ensures.entry)
    c.in-Some-get_index.ensures.value))

pub returns-in-None : goal.returns-in-None
returns-in-None c =
    let number = c.in-Some.number in
    rw c.in-Some.is
    (subst (λ (configuration : Configuration). IfSome (row_meant configuration.commands (Some number))
    (λ used. target_of configuration.commands c.plan_without_row-in-None.result
    ≡ Some (by_row configuration.commands c.args.technology used)))
    c.self.view_is
    (index_no_row c.self.invariant number
    (λ used. target_of c.self.inside.commands.commands c.plan_without_row-in-None.result
    ≡ Some (by_row c.self.inside.commands.commands c.args.technology used))
    (ap (slice_get c.self.inside.rows.entries) (sym c.place.ensures)
    ∙ sym c.in-None.ensures.entry)))
