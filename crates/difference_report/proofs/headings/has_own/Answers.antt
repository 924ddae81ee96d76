use Rattle.std.proofs.Common.{rules, ◌<◌, length}
use Rattle.difference_report.specs.Headings.{is_own_entry}
use Rattle.difference_report.proofs.Steps.{tested}
use Rattle.difference_report.proofs.headings.has_own.Goals as goal

pub loop-place-preserved : goal.loop-place-preserved
loop-place-preserved c =
    let within : c.loop-place.place < length c.args.sets.now = search rules in
    tested is_own_entry c.args.sets.now c.loop-place.place c.loop-place.found
    c.has_own_by-found.result within c.loop-place.invariant c.has_own_by-found.ensures
