use Rattle.std.proofs.Common.{◌≡◌, ◌∙◌, ◌++◌, ap, subst}
use Rattle.std.specs.Prelude.{OnOk}
use Rattle.csv.specs.Writing.{default_writer, row_text}
use Rattle.compiler.specs.Plan.{plan_of}
use Rattle.plan_difference.specs.Destination.{destination_of}
use Rattle.plan_difference.specs.Entries.{has_set}
use Rattle.difference_report.specs.Rows.{set_fields}
use Rattle.difference_report.proofs.rows.add_row.Goals as goal

pub returns : goal.returns
returns c =
    let shown = c.deref.ensures.value ∙ c.in_ok-shown.ensures in
    let has = c.has.ensures ∙ ap (λ sets. has_set sets c.args.set.now) c.changed.ensures in
    let old_place = c.destination-old_place.ensures
    ∙ ap (λ commands. destination_of (plan_of commands c.args.digits.now)) c.old.ensures in
    let new_place = c.destination-new_place.ensures
    ∙ ap (λ commands. destination_of (plan_of commands c.args.digits.now)) c.new.ensures in
    subst (λ fields. OnOk c.add_set_fields.result (c.add_set_fields.new.rows
    ≡ c.args.rows.now ++ row_text default_writer fields))
    (λ i. set_fields c.args.joint.now (shown i) (has i) c.args.set.now (old_place i)
    (new_place i) c.args.number)
    c.add_set_fields.ensures
