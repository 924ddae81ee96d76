use Rattle.std.proofs.Common.{◌≡◌}
use Rattle.gk_terms.specs.TechPrefix.{is_tech_prefix}
use Rattle.entry_bytes.proofs.EndpointTextLemmas.{AreRead}
use Rattle.entry_bytes.proofs.GivenLemmas.{with_technologies}
use Rattle.entry_bytes.proofs.endpoint_reading.give_first_technologies.Given as goal

abbrev pub invariant-loop-place : goal.invariant-loop-place
invariant-loop-place l = record {
  read : AreRead is_tech_prefix l.count l.bytes l.endpoint.technologies l.rest l._place;
  alone : l.endpoint ≡ with_technologies l.fn.endpoint l.endpoint.technologies;
}
