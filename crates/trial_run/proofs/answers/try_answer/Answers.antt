use Rattle.std.proofs.Common.{ap, None, refl, ◌∙◌}
use Rattle.rulings.specs.Lent.{route_meant}
use Rattle.trial_run.specs.Answers.{row_with}
use Rattle.trial_run.proofs.NumberLemmas.{led_answer, target_number}
use Rattle.trial_run.proofs.answers.try_answer.Goals as goal

pub returns : goal.returns
returns c =
    let commands = c.args.tables.now.commands in
    let kept = c.args.registry.now.endpoints in
    let asked = c.args.admission.now.asked in
    let route = route_meant c.lent_of-route.result in (
      c.in_ok-row.ensures
          ∙ ap (λ candidate. row_with c.args.admission.now candidate)
          (led_answer commands kept asked None c.args.source route c.requires.local
          c.requires.answer c.lent_of-route.ensures),
      c.touched_of-touched.ensures
          ∙ target_number commands kept asked None c.args.source None route c.requires.local
          c.requires.answer c.lent_of-route.ensures refl,
    )
