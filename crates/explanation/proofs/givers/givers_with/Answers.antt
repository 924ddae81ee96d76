use Rattle.std.proofs.Common.{◌++◌, sym, ap, ◌∙◌}
use Rattle.explanation.specs.Steps.{giver_in}
use Rattle.explanation.proofs.FoundLemmas.{found_more}
use Rattle.explanation.proofs.givers.givers_with.Goals as goal

pub loop-place-preserved : goal.loop-place-preserved
loop-place-preserved c =
    let given = giver_in c.args.tables.now.commands c.args.prefix.now in
    c.in_ok-add_giver.ensures
    ∙ ap (λ givers. givers ++ given c.in-Some.endpoint.now) c.loop-place.invariant
    ∙ found_more c.args.registry.now.endpoints c.loop-place.place c.in-Some.endpoint.now
    (sym c.in-Some.ensures) given
