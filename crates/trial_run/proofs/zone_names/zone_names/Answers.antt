use Rattle.std.proofs.Common.{◌≡◌, ap, sym, ◌∙◌, take, ◌+◌, ◌++◌, ◌∷◌, []}
use Rattle.std.specs.Map.{keys_of}
use Rattle.gk_commands.specs.Zones.{zones_of}
use Rattle.compiler.proofs.StepLemmas.{take_with}
use Rattle.trial_run.proofs.ZoneLemmas.{name_more, names_same}
use Rattle.trial_run.proofs.zone_names.zone_names.Goals as goal
use Rattle.trial_run.proofs.zone_names.zone_names.Goals.{in-Some+in_ok-of+in_ok-push, in_default}

pub loop-command-preserved : goal.loop-command-preserved
loop-command-preserved c =
    let commands = c.args.commands.now in
    let place = c.loop-command.command-index in
    let more : take (place + 1) commands ≡ take place commands ++ c.command-item.result ∷ [] =
    take_with commands place c.command-item.result c.command-item.is c.loop-command-test.true in
    elim c.match-zone.branch [
      | in-Some+in_ok-of+in_ok-push w ↦
          ap (λ names. names.items) w.names-is ∙ w.in_ok-push.ensures.items
          ∙ ap (λ l. l ++ w.in_ok-of.field-0 ∷ []) c.loop-command.invariant
          ∙ ap (λ n. keys_of (zones_of (take place commands)) ++ n ∷ []) w.in_ok-of.ensures.same
          ∙ name_more commands place c.command-item.result w.in-Some.zone more
          (sym c.zone.ensures ∙ w.in-Some.is)
      | in_default w ↦
          ap (λ names. names.items) w.names-is ∙ c.loop-command.invariant
          ∙ names_same commands place c.command-item.result more (sym c.zone.ensures
          ∙ w.in_default.is)
    ]
