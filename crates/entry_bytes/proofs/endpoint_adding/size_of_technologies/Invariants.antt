use Rattle.std.proofs.Common.{◌≡◌, ◌≤◌, ◌+◌, ◌*◌, length, take}
use Rattle.gk_terms.specs.declared.limits.TheConstants.{MOST_TECHNOLOGY}
use Rattle.std.specs.List.{flat_map}
use Rattle.entry_bytes.specs.EndpointTexts.{sized}
use Rattle.entry_bytes.proofs.endpoint_adding.size_of_technologies.Given as goal

abbrev pub invariant-loop-prefix : goal.invariant-loop-prefix
invariant-loop-prefix l = record {
  size : l.size ≡ 1 + length (flat_map sized (take l.prefix-index l.prefixes));
  short : l.size ≤ 1 + l.prefix-index * (1 + MOST_TECHNOLOGY);
}
