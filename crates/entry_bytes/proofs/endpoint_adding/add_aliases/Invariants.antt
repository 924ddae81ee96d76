use Rattle.std.proofs.Common.{◌≡◌, true, take}
use Rattle.std.specs.List.{list_all}
use Rattle.gk_terms.specs.Dialled.{is_dialled}
use Rattle.field_bytes.specs.Adding.{Adds}
use Rattle.entry_bytes.proofs.EndpointLemmas.{so_many}
use Rattle.entry_bytes.proofs.endpoint_adding.add_aliases.Given as goal

abbrev pub invariant-loop-alias : goal.invariant-loop-alias
invariant-loop-alias l = record {
  added : Adds l.fn.bytes (so_many l.aliases l.alias-index) l.bytes;
  kinds : list_all is_dialled (take l.alias-index l.aliases) ≡ true;
}
