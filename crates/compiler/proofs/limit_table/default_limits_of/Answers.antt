use Rattle.std.proofs.Common.{◌≡◌, ap, sym, ◌∙◌, take, ◌+◌, ◌++◌, ◌∷◌, []}
use Rattle.compiler.specs.TablesIndex.{default_limits_of, defaults_said, limits_or}
use Rattle.compiler.proofs.LimitLemmas.{defaults_more}
use Rattle.compiler.proofs.StepLemmas.{take_with}
use Rattle.compiler.proofs.limit_table.default_limits_of.Goals as goal

pub loop-command-preserved : goal.loop-command-preserved
loop-command-preserved c =
    let commands = c.args.commands.now in
    let place = c.loop-command.command-index in
    let more : take (place + 1) commands ≡ take place commands ++ c.command-item.result ∷ [] =
    take_with commands place c.command-item.result c.command-item.is c.loop-command-test.true in
    c.or-defaults.ensures
    ∙ ap (λ said. limits_or said c.loop-command.defaults) c.defaults_said.ensures
    ∙ ap (limits_or (defaults_said c.command-item.result)) c.loop-command.invariant
    ∙ sym (ap default_limits_of more ∙ defaults_more (take place commands) c.command-item.result)
