use Rattle.std.proofs.Common.{◌≡◌, ◌∙◌, ap, sym, take, ◌+◌, ◌++◌, ◌∷◌, [], append_assoc, Some}
use Rattle.compiler.proofs.StepLemmas.{take_with}
use Rattle.plan_difference.proofs.GatherLemmas.{heads_of, prefixes_more, prefixes_same}
use Rattle.plan_difference.proofs.gathering.add_prefixes_of.Goals as goal
use Rattle.plan_difference.proofs.gathering.add_prefixes_of.Goals.{in-Some+in_ok-push, in_default}

pub loop-command-preserved : goal.loop-command-preserved
loop-command-preserved c =
    let commands = c.args.commands.now in
    let place = c.loop-command.command-index in
    let initial = c.args.heads.now.items in
    let more : take (place + 1) commands ≡ take place commands ++ c.command-item.result ∷ [] =
    take_with commands place c.command-item.result c.command-item.is c.loop-command-test.true in
    elim c.match-prefix_in.branch [
      | in-Some+in_ok-push w ↦
          let prefix = w.in-Some.prefix in
          ap (λ heads. heads.items) w.heads-is ∙ w.in_ok-push.ensures.items
          ∙ ap (λ items. items ++ Some prefix ∷ []) c.loop-command.invariant
          ∙ append_assoc initial (heads_of (take place commands)) (Some prefix ∷ [])
          ∙ ap (λ items. initial ++ items) (sym (ap heads_of more
          ∙ prefixes_more (take place commands) c.command-item.result prefix
          (sym w.in-Some.ensures)))
      | in_default w ↦
          ap (λ heads. heads.items) w.heads-is ∙ c.loop-command.invariant
          ∙ ap (λ items. initial ++ items) (sym (ap heads_of more
          ∙ prefixes_same (take place commands) c.command-item.result (sym w.in_default.ensures)))
    ]
