use Rattle.rulings.specs.Lent.{route_meant}
use Rattle.trial_run.proofs.SpelledLemmas.{same_texts}
use Rattle.trial_run.proofs.comparing.is_led_to.Goals as goal

pub returns-clause-text : goal.returns-clause-text
returns-clause-text c =
    same_texts c.is_equal.result c.args.recorded.now (route_meant c.args.led.now)
    c.is_spelled.ensures c.is_spelled_lent.ensures c.is_equal.ensures
