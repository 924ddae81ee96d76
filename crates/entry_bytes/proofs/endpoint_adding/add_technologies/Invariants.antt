use Rattle.std.proofs.Common.{◌≡◌, true, take}
use Rattle.std.specs.List.{list_all}
use Rattle.gk_terms.specs.TechPrefix.{is_tech_prefix}
use Rattle.field_bytes.specs.Adding.{Adds}
use Rattle.entry_bytes.proofs.EndpointLemmas.{so_many}
use Rattle.entry_bytes.proofs.endpoint_adding.add_technologies.Given as goal

abbrev pub invariant-loop-prefix : goal.invariant-loop-prefix
invariant-loop-prefix l = record {
  added : Adds l.fn.bytes (so_many l.prefixes l.prefix-index) l.bytes;
  kinds : list_all is_tech_prefix (take l.prefix-index l.prefixes) ≡ true;
}
