use Rattle.std.proofs.Common.{◌≡◌, ◌∙◌, take, ◌+◌, ◌++◌, ◌∷◌, [], bytes_eq}
use Rattle.std.specs.Map.{lookup}
use Rattle.compiler.proofs.StepLemmas.{take_with}
use Rattle.compiler.proofs.GatewayLemmas.{one_more_name}
use Rattle.compiler.proofs.priorities.set_priorities.Goals as goal

pub loop-name-preserved : goal.loop-name-preserved
loop-name-preserved c =
    let names = c.args.names.now in
    let place = c.loop-name.name-index in
    let more : take (place + 1) names ≡ take place names ++ c.name-item.result ∷ [] =
    take_with names place c.name-item.result c.name-item.is c.loop-name-test.true in
    λ gateway. rw more
    ((rw c.name-gateway.ensures at c.in_ok-insert.ensures.updates.0 gateway)
    ∙ one_more_name gateway (take place names) c.name-item.result c.args.priority
    (lookup (bytes_eq gateway) c.loop-name.gateways.entries)
    (lookup (bytes_eq gateway) c.args.gateways.now.entries)
    (c.loop-name.invariant gateway))
