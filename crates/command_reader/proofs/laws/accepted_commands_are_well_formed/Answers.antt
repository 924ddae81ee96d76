-- Accepted commands are well formed.
use Rattle.command_reader.proofs.accepted.WellFormedLemmas.{well_formed}
use Rattle.command_reader.proofs.laws.accepted_commands_are_well_formed.Goals as goal

pub returns : goal.returns
returns c = well_formed
