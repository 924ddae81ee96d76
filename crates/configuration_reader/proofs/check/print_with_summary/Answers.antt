use Rattle.configuration_reader.proofs.CheckLemmas.{front_of_both}
use Rattle.configuration_reader.proofs.check.print_with_summary.Goals as goal

pub returns-in-Ok-clause-front : goal.returns-in-Ok-clause-front
returns-in-Ok-clause-front g c =
    front_of_both c.write_summary.result _ _ _ _ _ c.in-Ok.ensures.whole
    c.write_summary.ensures.front
