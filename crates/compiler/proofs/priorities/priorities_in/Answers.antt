use Rattle.std.proofs.Common.{◌≡◌, take, ◌+◌, ◌++◌, ◌∷◌, []}
use Rattle.std.proofs.lemmas.List.{take_all}
use Rattle.compiler.proofs.GatewayLemmas.{priorities_more}
use Rattle.compiler.proofs.StepLemmas.{take_with}
use Rattle.compiler.proofs.priorities.priorities_in.Goals as goal

pub loop-command-preserved : goal.loop-command-preserved
loop-command-preserved c =
    let commands = c.args.commands.now in
    let place = c.loop-command.command-index in
    let more : take (place + 1) commands ≡ take place commands ++ c.command-item.result ∷ [] =
    take_with commands place c.command-item.result c.command-item.is c.loop-command-test.true in
    rw more
    (priorities_more c.args.zones.now.entries (take place commands) c.command-item.result
    c.args.rows.now.entries c.loop-command.priorities.entries c.add_command.new.priorities.entries
    c.loop-command.invariant c.in_ok-add_command.ensures)

pub returns : goal.returns
returns c =
    let whole : take c.loop-command.command-index c.args.commands.now ≡ c.args.commands.now =
    take_all c.loop-command.command-index c.args.commands.now c.loop-command-test.false in
    rw whole at c.loop-command.invariant
