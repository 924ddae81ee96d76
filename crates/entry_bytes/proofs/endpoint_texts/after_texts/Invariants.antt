use Rattle.std.proofs.Common.{◌≡◌, ◌-◌}
use Rattle.entry_bytes.specs.EndpointTexts.{after_texts}
use Rattle.entry_bytes.proofs.endpoint_texts.after_texts.Given as goal

abbrev pub invariant-loop-place : goal.invariant-loop-place
invariant-loop-place l = after_texts (l.count - l._place) l.rest ≡ after_texts l.count l.bytes
