use Rattle.std.proofs.Common.{ap, Some, ◌∙◌}
use Rattle.rulings.specs.Lent.{route_meant}
use Rattle.trial_run.specs.Answers.{row_with}
use Rattle.trial_run.proofs.NumberLemmas.{led_answer, number_of_target, target_number}
use Rattle.trial_run.proofs.answers.try_dialled.Goals as goal

pub returns : goal.returns
returns c =
    let commands = c.args.tables.now.commands in
    let kept = c.args.registry.now.endpoints in
    let asked = c.args.admission.now.asked in
    let route = route_meant c.led-led.result.route in (
      c.in_ok-row.ensures
          ∙ ap (λ candidate. row_with c.args.admission.now candidate)
          (led_answer commands kept asked (Some c.args.digits.now) c.args.source route
          c.requires.local c.requires.dialled c.led-led.ensures.route),
      c.touched_of-touched.ensures
          ∙ target_number commands kept asked (Some c.args.digits.now) c.args.source
          c.led-led.result.zone route c.requires.local c.requires.dialled c.led-led.ensures.route
          (number_of_target commands asked.zone _ c.led-led.result.zone c.requires.accepted
          c.led-led.ensures.zone),
    )
