use Rattle.std.proofs.Common.{◌≡◌, ap, sym, ◌∙◌, take, ◌+◌, ◌++◌, ◌∷◌, []}
use Rattle.std.specs.Option.{option_or}
use Rattle.compiler.specs.Technology.{default_in, default_technology_of}
use Rattle.compiler.proofs.StepLemmas.{take_with, last_in-more}
use Rattle.compiler.proofs.technologies.default_technology_in.Goals as goal
use Rattle.compiler.proofs.technologies.default_technology_in.Goals.{in-Some, in_default}

pub loop-command-preserved : goal.loop-command-preserved
loop-command-preserved c =
    let commands = c.args.commands.now in
    let place = c.loop-command.command-index in
    let more : take (place + 1) commands ≡ take place commands ++ c.command-item.result ∷ [] =
    take_with commands place c.command-item.result c.command-item.is c.loop-command-test.true in
    let step : default_technology_of (take (place + 1) commands)
    ≡ option_or (default_in c.command-item.result) (default_technology_of (take place commands)) =
    ap default_technology_of more
    ∙ last_in-more default_in (take place commands) c.command-item.result in
    elim c.match-default_in.branch [
      | in-Some w ↦
          w.default-is ∙ sym (step
          ∙ ap (λ o. option_or o (default_technology_of (take place commands)))
          (sym c.default_in.ensures ∙ w.in-Some.is))
      | in_default w ↦
          w.default-is ∙ c.loop-command.invariant
          ∙ sym (step ∙ ap (λ o. option_or o (default_technology_of (take place commands)))
          (sym c.default_in.ensures ∙ w.in_default.is))
    ]
