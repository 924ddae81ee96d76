use Rattle.publisher.proofs.Rules.{looks}
use Rattle.publisher.proofs.looks.tables_of.Goals as goal

pub enter_as-requires : goal.enter_as-requires
enter_as-requires g c = looks g.J.Imprint.book _ _
