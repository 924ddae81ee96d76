use Rattle.std.proofs.Common.{◌≤◌, length, sym, arith}
use Rattle.std.specs.Option.{option_to_list}
use Rattle.compiler.specs.Plan.{row_meant}
use Rattle.explanation.specs.Steps.{candidate_in}
use Rattle.explanation.proofs.FoundLemmas.{found_all, found_next}
use Rattle.explanation.proofs.candidates.candidates.Goals as goal

pub loop-place-preserved : goal.loop-place-preserved
loop-place-preserved c =
    found_next c.args.registry.now.endpoints c.loop-place.place c.in-Some.endpoint.now
    (sym c.in-Some.ensures)
    (row_meant c.args.tables.now.commands c.args.row.now)
    (candidate_in c.args.tables.now.commands c.args.zone.now c.args.prefix.now)
    c.loop-place.list.items (option_to_list c.candidate.result) c.add_if_any.new.list.items
    c.loop-place.invariant c.candidate.ensures c.in_ok-add_if_any.ensures

pub returns : goal.returns
returns c =
    let within : length c.args.registry.now.endpoints ≤ c.loop-place.place =
    omega (arith, c.len-place-end.ensures.value) in
    found_all (row_meant c.args.tables.now.commands c.args.row.now)
    (candidate_in c.args.tables.now.commands c.args.zone.now c.args.prefix.now)
    c.args.registry.now.endpoints c.loop-place.place c.loop-place.list.items within
    c.loop-place.invariant
