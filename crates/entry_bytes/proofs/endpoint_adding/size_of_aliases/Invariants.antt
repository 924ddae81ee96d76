use Rattle.std.proofs.Common.{◌≡◌, ◌≤◌, ◌+◌, ◌*◌, length, take}
use Rattle.gk_terms.specs.declared.limits.TheConstants.{MOST_DIALLED}
use Rattle.std.specs.List.{flat_map}
use Rattle.entry_bytes.specs.EndpointTexts.{sized}
use Rattle.entry_bytes.proofs.endpoint_adding.size_of_aliases.Given as goal

abbrev pub invariant-loop-alias : goal.invariant-loop-alias
invariant-loop-alias l = record {
  size : l.size ≡ 1 + length (flat_map sized (take l.alias-index l.aliases));
  short : l.size ≤ 1 + l.alias-index * (1 + MOST_DIALLED);
}
