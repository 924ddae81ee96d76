use Rattle.gk_terms.specs.Text.{lines_of}
use Rattle.gk_protocol.proofs.EndpointFileLemmas.{AreAddedSoFar}
use Rattle.gk_protocol.proofs.endpoint_files.read_endpoints.Given as goal

abbrev pub invariant-loop-raw : goal.invariant-loop-raw
invariant-loop-raw l =
    AreAddedSoFar l.fn.tables.commands (lines_of l.fn.text) (lines_of l.raw-iterator) l.line
    l.registry
