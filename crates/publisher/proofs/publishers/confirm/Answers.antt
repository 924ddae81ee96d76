use Rattle.std.proofs.Common.{ap, ◌∙◌}
use Rattle.publisher.specs.History.{generations_in}
use Rattle.publisher.proofs.Histories.{generations_in_force}
use Rattle.publisher.proofs.publishers.confirm.Goals as goal

pub returns-clause-list : goal.returns-clause-list
returns-clause-list g c =
    ap generations_in c.in-Some.ensures ∙
    generations_in_force c.args.drafted.now c.args.tables.now.value.commands
