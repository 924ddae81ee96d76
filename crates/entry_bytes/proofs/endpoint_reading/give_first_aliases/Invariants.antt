use Rattle.std.proofs.Common.{◌≡◌}
use Rattle.gk_terms.specs.Dialled.{is_dialled}
use Rattle.entry_bytes.proofs.EndpointTextLemmas.{AreRead}
use Rattle.entry_bytes.proofs.GivenLemmas.{with_aliases}
use Rattle.entry_bytes.proofs.endpoint_reading.give_first_aliases.Given as goal

abbrev pub invariant-loop-place : goal.invariant-loop-place
invariant-loop-place l = record {
  read : AreRead is_dialled l.count l.bytes l.endpoint.aliases l.rest l._place;
  alone : l.endpoint ≡ with_aliases l.fn.endpoint l.endpoint.aliases;
}
