use Rattle.std.proofs.Common.{◌≡◌, ap, sym, ◌∙◌, take, ◌+◌, ◌++◌, ◌∷◌, [], Some}
use Rattle.std.specs.Option.{option_or, option_map}
use Rattle.compiler.specs.Limit.{remote_size, remote_limit_of, units_of_kbps}
use Rattle.compiler.specs.Last.{last_in}
use Rattle.std.specs.List.{filter_map}
use Rattle.compiler.proofs.StepLemmas.{take_with, last_in-more}
use Rattle.compiler.proofs.limit_table.remote_limit_in.Goals as goal
use Rattle.compiler.proofs.limit_table.remote_limit_in.Goals.{in-Some, in_default}

pub loop-command-preserved : goal.loop-command-preserved
loop-command-preserved c =
    let commands = c.args.commands.now in
    let place = c.loop-command.command-index in
    let more : take (place + 1) commands ≡ take place commands ++ c.command-item.result ∷ [] =
    take_with commands place c.command-item.result c.command-item.is c.loop-command-test.true in
    let before = last_in (filter_map remote_size (take place commands)) in
    let step : remote_limit_of (take (place + 1) commands)
    ≡ option_map units_of_kbps (option_or (remote_size c.command-item.result) before) =
    ap remote_limit_of more
    ∙ ap (option_map units_of_kbps)
    (last_in-more remote_size (take place commands) c.command-item.result) in
    elim c.match-remote_size.branch [
      | in-Some w ↦
          w.limit-is ∙ ap (λ limit. Some limit) w.units_of.ensures ∙ sym (step
          ∙ ap (λ o. option_map units_of_kbps (option_or o before))
          (sym c.remote_size.ensures ∙ w.in-Some.is))
      | in_default w ↦
          w.limit-is ∙ c.loop-command.invariant
          ∙ sym (step ∙ ap (λ o. option_map units_of_kbps (option_or o before))
          (sym c.remote_size.ensures ∙ w.in_default.is))
    ]
