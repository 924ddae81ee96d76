use Rattle.configuration_reader.proofs.CheckLemmas.{read_whole, refused_whole}
use Rattle.configuration_reader.proofs.check.configuration_of.Goals as goal

pub returns-clause-read : goal.returns-clause-read
returns-clause-read g c = read_whole _ c.new-lines.result _ _ c.read_configuration.result
    c.new-lines.ensures c.read_configuration.ensures.read

pub returns-clause-config : goal.returns-clause-config
returns-clause-config g c =
    λ fault is. refused_whole _ c.new-lines.result _ _ c.read_configuration.result fault is
    c.new-lines.ensures c.read_configuration.ensures.read
