use Rattle.std.proofs.Common.{◌≡◌, ◌∙◌, ap, sym, take, ◌+◌, ◌++◌, ◌∷◌, [], append_assoc}
use Rattle.compiler.proofs.StepLemmas.{take_with}
use Rattle.plan_difference.specs.Gathered.{patterns_of}
use Rattle.plan_difference.proofs.GatherLemmas.{patterns_more, patterns_same}
use Rattle.plan_difference.proofs.gathering.add_patterns_of.Goals as goal
use Rattle.plan_difference.proofs.gathering.add_patterns_of.Goals.{in-Some+in_ok-push, in_default}

pub loop-command-preserved : goal.loop-command-preserved
loop-command-preserved c =
    let commands = c.args.commands.now in
    let place = c.loop-command.command-index in
    let initial = c.args.patterns.now.items in
    let more : take (place + 1) commands ≡ take place commands ++ c.command-item.result ∷ [] =
    take_with commands place c.command-item.result c.command-item.is c.loop-command-test.true in
    elim c.match-pattern_in.branch [
      | in-Some+in_ok-push w ↦
          let pattern = w.in-Some.pattern.now in
          ap (λ patterns. patterns.items) w.patterns-is ∙ w.in_ok-push.ensures.items
          ∙ ap (λ items. items ++ pattern ∷ []) c.loop-command.invariant
          ∙ append_assoc initial (patterns_of (take place commands)) (pattern ∷ [])
          ∙ ap (λ items. initial ++ items) (sym (ap patterns_of more
          ∙ patterns_more (take place commands) c.command-item.result pattern w.in-Some.ensures))
      | in_default w ↦
          ap (λ patterns. patterns.items) w.patterns-is ∙ c.loop-command.invariant
          ∙ ap (λ items. initial ++ items) (sym (ap patterns_of more
          ∙ patterns_same (take place commands) c.command-item.result w.in_default.ensures))
    ]
