use Rattle.std.proofs.Common.{◌≡◌, ap, sym, ◌∙◌, take, ◌+◌, ◌++◌, ◌∷◌, [], bytes_eq}
use Rattle.indexmap.specs.IndexMap.{insert_entry}
use Rattle.compiler.proofs.StepLemmas.{take_with}
use Rattle.compiler.proofs.ZoneLemmas.{zones_more, zones_same}
use Rattle.compiler.proofs.zone_table.zones_in.Goals as goal
use Rattle.compiler.proofs.zone_table.zones_in.Goals.{in-Some+in_ok-insert, in_default}

pub loop-command-preserved : goal.loop-command-preserved
loop-command-preserved c =
    let commands = c.args.commands.now in
    let place = c.loop-command.command-index in
    let more : take (place + 1) commands ≡ take place commands ++ c.command-item.result ∷ [] =
    take_with commands place c.command-item.result c.command-item.is c.loop-command-test.true in
    elim c.match-zone.branch [
      | in-Some+in_ok-insert w ↦
          ap (λ zones. zones.entries) w.zones-is ∙ w.in_ok-insert.ensures.entries
          ∙ ap (λ zones. insert_entry bytes_eq zones w.in-Some.zone.0 w.in-Some.zone.1)
          c.loop-command.invariant
          ∙ zones_more commands place c.command-item.result w.in-Some.zone c.requires more
          (sym c.zone.ensures ∙ w.in-Some.is)
      | in_default w ↦
          ap (λ zones. zones.entries) w.zones-is ∙ c.loop-command.invariant
          ∙ zones_same commands place c.command-item.result more
          (sym c.zone.ensures ∙ w.in_default.is)
    ]
