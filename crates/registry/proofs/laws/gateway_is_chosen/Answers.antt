use Rattle.compiler.specs.Priority.{priority_of}
use Rattle.registry.proofs.GatewayLaws.{chosen_from_computed, computed_from_chosen, none_computed, no_candidate}
use Rattle.registry.proofs.laws.gateway_is_chosen.Goals as goal

pub returns-clause-chosen : goal.returns-clause-chosen
returns-clause-chosen c commands endpoints zone prefix row =
    chosen_from_computed (priority_of commands row) endpoints zone prefix

pub returns-clause-computed : goal.returns-clause-computed
returns-clause-computed c commands endpoints zone prefix row =
    computed_from_chosen (priority_of commands row) endpoints zone prefix

pub returns-clause-none : goal.returns-clause-none
returns-clause-none c commands endpoints zone prefix row = (
  none_computed (priority_of commands row) endpoints zone prefix,
  no_candidate (priority_of commands row) endpoints zone prefix,
)
