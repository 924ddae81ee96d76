use Rattle.std.proofs.Common.{rules, ◌<◌, length}
use Rattle.difference_report.specs.Rows.{with_row}
use Rattle.difference_report.proofs.Steps.{stepped}
use Rattle.difference_report.proofs.rows.add_rows.Goals as goal

pub loop-place-preserved : goal.loop-place-preserved
loop-place-preserved c =
    let within : c.loop-place.place < length c.args.found.now.listed = search rules in
    stepped (with_row c.args.found.now.old c.args.found.now.new c.args.joint.now
    c.args.found.now.changed) c.args.rows.now c.args.found.now.listed c.loop-place.place
    c.loop-place.rows
    c.add_at.new.rows within c.loop-place.invariant c.in_ok-add_at.ensures
