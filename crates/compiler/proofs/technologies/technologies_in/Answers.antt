use Rattle.std.proofs.Common.{◌≡◌, sym, ◌∙◌, take, ◌+◌, ◌++◌, ◌∷◌, []}
use Rattle.compiler.proofs.StepLemmas.{take_with, technologies_same, technologies_more}
use Rattle.compiler.proofs.technologies.technologies_in.Goals as goal
use Rattle.compiler.proofs.technologies.technologies_in.Goals.{in-Some+in_ok-add_hopoffs, in_default}

pub loop-command-preserved : goal.loop-command-preserved
loop-command-preserved c =
    let zones = c.args.zones.now.entries in
    let commands = c.args.commands.now in
    let place = c.loop-command.command-index in
    let more : take (place + 1) commands ≡ take place commands ++ c.command-item.result ∷ [] =
    take_with commands place c.command-item.result c.command-item.is c.loop-command-test.true in
    elim c.match-prefix_in.branch [
      | in-Some+in_ok-add_hopoffs w ↦
          rw (more, w.technologies-is)
          (technologies_more zones (take place commands) c.command-item.result w.in-Some.prefix
          c.loop-command.technologies w.add_hopoffs.new.technologies
          c.loop-command.invariant (sym c.prefix_in.ensures ∙ w.in-Some.is)
          (rw w.hopoffs_named.ensures at w.in_ok-add_hopoffs.ensures.added)
          w.in_ok-add_hopoffs.ensures.text)
      | in_default w ↦
          rw (more, w.technologies-is)
          (technologies_same zones (take place commands) c.command-item.result
          c.loop-command.technologies c.loop-command.invariant
          (sym c.prefix_in.ensures ∙ w.in_default.is))
    ]
