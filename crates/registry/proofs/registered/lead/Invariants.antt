use Rattle.std.proofs.Common.{◌≤◌, ◌+◌, length, take}
use Rattle.std.specs.HashMap.{spare}
use Rattle.registry.specs.RegistryIndex.{LeadTo}
use Rattle.registry.proofs.registered.lead.Given as goal

abbrev pub invariant-loop-alias : goal.invariant-loop-alias
invariant-loop-alias l = record {
  leads_to : LeadTo l.fn.alias_numbers.entries l.alias_numbers.entries (take l.alias-index
      l.aliases) l.number;
  room : length l.aliases ≤ spare l.alias_numbers + l.alias-index;
}
